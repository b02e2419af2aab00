-- Whether there is a text of a tree: the refusals in their order, and the trees that are spelt.
use Prim.Native.Nat.{ℕ, ◌≤◌, ◌<◌}
use mathlib.Core.Path.{◌≡◌, sym, ◌∙◌}
use mathlib.Core.List.{List}
use borrow.Author.Tests.{le-leb, lt-leb, leb-true}
use Rattle.refusals.specs.declared.Refusal.{Refusal}
use Rattle.refusals.specs.declared.Refusal.TheVariants.{RuleWordsWrong}
use Rattle.refusals.specs.Verdict.{Fine, Refused}
use Rattle.refusals.proofs.Order.{holds_fine, fails_refused, fine_iff_holds, then_fine, then_refused, then_fine_iff}
use Rattle.rules.specs.Words.{most_rules}
use Rattle.trees.specs.Words.{size_verdict}
use Rattle.trees.specs.Spelt.{spelt_verdict}
use Rattle.trees.proofs.Spelling.{spelt_fine_iff}
use Rattle.tree_file.specs.TreeLines.{Spelling}
use Rattle.tree_file.specs.Writing.{spelling_verdict}

module _ (n : ℕ) (nodes pool : List ℕ) where
  -- more than the most rules are refused
  pub many_rules : most_rules < n → Refused RuleWordsWrong ≡ spelling_verdict n nodes pool
  unfolding spelling_verdict
  many_rules l = sym (then_refused _ (fails_refused _ (lt-leb n most_rules l)))

  module _ (few : n ≤ most_rules) where
    -- then the sizes refuse
    pub sizes_refuse :
        {why : Refusal} → size_verdict nodes pool ≡ Refused why → Refused why ≡ spelling_verdict n nodes pool
    unfolding spelling_verdict
    sizes_refuse e = sym (then_fine _ (holds_fine _ (le-leb n most_rules few)) ∙ then_refused _ e)

    -- then *spelt* decides
    pub spelt_decides : size_verdict nodes pool ≡ Fine → spelt_verdict n nodes pool ≡ spelling_verdict n nodes pool
    unfolding spelling_verdict
    spelt_decides e = sym (then_fine _ (holds_fine _ (le-leb n most_rules few)) ∙ then_fine _ e)

  -- a tree that is not refused is spelt
  pub spelling_of_fine : spelling_verdict n nodes pool ≡ Fine → Spelling n nodes pool
  unfolding spelling_verdict
  spelling_of_fine e =
      let t = (then_fine_iff _ _).0 e in
      let u = (then_fine_iff _ _).0 t.1 in
      record {
        few = leb-true n most_rules ((fine_iff_holds _ _).0 t.0);
        sizes = u.0;
        spelt = (spelt_fine_iff n nodes pool).0 u.1;
      }

  -- a tree that is spelt is not refused
  pub fine_of_spelling : Spelling n nodes pool → spelling_verdict n nodes pool ≡ Fine
  fine_of_spelling g = sym (spelt_decides g.few g.sizes) ∙ (spelt_fine_iff n nodes pool).1 g.spelt
