-- The part check put together: the list and the sizes, the number of rules, the words, and then the root's part.
use Rattle.tree_check.specs.declared.preorder.Part.{Part}
use Rattle.std.specs.Prelude.{Result}
use Prim.Native.Nat.{ℕ}
use mathlib.Core.Bool.{true}
use mathlib.Core.Path.{◌≡◌, sym, ap, subst, ◌∙◌}
use mathlib.Core.List.{List}
use lib.Dec.{eqb}
use borrow.Author.Tests.{eq-eqb, ne_eqb}
use Rattle.refusals.specs.declared.Refusal.{Refusal}
use Rattle.refusals.specs.declared.Refusal.TheVariants.{NodeWrong}
use Rattle.refusals.specs.Verdict.{Verdict}
use Rattle.refusals.specs.Verdict.{Fine, Refused}
use Rattle.refusals.specs.Order.{refuse_unless, ◌then◌}
use Rattle.refusals.proofs.Order.{holds_fine, fails_refused, then_fine, then_refused, then_assoc}
use Rattle.fields.specs.Boxes.{root_box}
use Rattle.rules.specs.Words.{rule_count}
use Rattle.rules.specs.Good.{list_verdict}
use Rattle.trees.specs.Words.{node_count, size_verdict}
use Rattle.trees.specs.Spelt.{Spelt, spelt_verdict}
use Rattle.trees.proofs.Spelling.{spelt_fine_iff}
use Rattle.tree_check.specs.Whole.{most_cuts}
use Rattle.tree_check.specs.Preorder.{preorder_of}
use Rattle.tree_check.specs.TreeCheck.{part_verdict, list_and_sizes}
use Rattle.tree_check.specs.PartCheck.{so_far_verdict}

-- words that are spelt for n rules are so for the list's, where it has n
pub so_spelt :
    (rs nodes pool : List ℕ) {n : ℕ} → n ≡ rule_count rs → spelt_verdict n nodes pool ≡ Fine →
    Spelt (rule_count rs) nodes pool
so_spelt rs nodes pool q w =
    (spelt_fine_iff (rule_count rs) nodes pool).0 (subst (λ (x : ℕ). spelt_verdict x nodes pool ≡ Fine) q w)

module _ (rs : List ℕ) (n : ℕ) (nodes pool : List ℕ) where
  -- a list or sizes that are refused are the refusal
  pub early_refused :
      {why : Refusal} → list_and_sizes rs nodes pool ≡ Refused why → Refused why ≡ so_far_verdict rs n nodes pool
  unfolding so_far_verdict
  early_refused e = sym (then_refused _ e) ∙ then_assoc (list_verdict rs) (size_verdict nodes pool) _

  module _ (e : list_and_sizes rs nodes pool ≡ Fine) where
    -- what is looked at from the words on, and from the number of rules on
    abbrev from_words : Verdict
    from_words =
        spelt_verdict (rule_count rs) nodes pool then
        part_verdict (node_count nodes) (preorder_of true most_cuts rs nodes pool root_box 0)

    count_decides : (refuse_unless (eqb n (rule_count rs)) (NodeWrong 0) then from_words) ≡ so_far_verdict rs n nodes pool
    unfolding so_far_verdict
    count_decides = sym (then_fine _ e) ∙ then_assoc (list_verdict rs) (size_verdict nodes pool) _

    -- another number of rules is refused
    pub count_refused : (n ≡ rule_count rs → ⊥) → Refused (NodeWrong 0) ≡ so_far_verdict rs n nodes pool
    count_refused q = sym (then_refused _ (fails_refused _ (ne_eqb n (rule_count rs) q))) ∙ count_decides

    module _ (q : n ≡ rule_count rs) where
      words_decide : from_words ≡ so_far_verdict rs n nodes pool
      words_decide = sym (then_fine _ (holds_fine _ (eq-eqb n (rule_count rs) q))) ∙ count_decides

      said : {v : Verdict} → spelt_verdict n nodes pool ≡ v → spelt_verdict (rule_count rs) nodes pool ≡ v
      said {v} w = subst (λ (x : ℕ). spelt_verdict x nodes pool ≡ v) q w

      -- words that are not spelt are the refusal
      pub words_refused :
          {why : Refusal} → spelt_verdict n nodes pool ≡ Refused why → Refused why ≡ so_far_verdict rs n nodes pool
      words_refused w = sym (then_refused _ (said w)) ∙ words_decide

      -- else the root's part decides
      pub root_decides :
          spelt_verdict n nodes pool ≡ Fine → {p : Result Part Refusal} {r : Verdict} →
          p ≡ preorder_of true most_cuts rs nodes pool root_box 0 → r ≡ part_verdict (node_count nodes) p →
          r ≡ so_far_verdict rs n nodes pool
      root_decides w a j = j ∙ ap (part_verdict (node_count nodes)) a ∙ sym (then_fine _ (said w)) ∙ words_decide
