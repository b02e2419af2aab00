-- The tree check put together: the words first, and then the root's part.
use Rattle.tree_check.specs.declared.preorder.Part.{Part}
use Rattle.tree_check.specs.declared.preorder.Lack.{Lack}
use Rattle.tree_check.specs.declared.check.Figures.{Figures}
use Rattle.tree_check.specs.Said.{Accepted, Complete, Good, Lacks}
use Rattle.std.specs.Prelude.{Err, Option, Result}
use Prim.Native.Nat.{ℕ}
use mathlib.Core.Path.{◌≡◌, refl, sym, ap, ◌∙◌}
use mathlib.Core.Logic.{◌↔◌}
use mathlib.Core.List.{List}
use borrow.Author.Tests.{eq-eqb, ne_eqb}
use Rattle.refusals.specs.declared.Refusal.{Refusal}
use Rattle.refusals.specs.declared.Refusal.TheVariants.{NodeWrong, LeafLacksRule}
use Rattle.refusals.specs.Verdict as verdict
use Rattle.refusals.specs.Paper.{success}
use Rattle.refusals.proofs.Order.{holds_fine, fails_refused, then_fine, then_refused, then_fine_iff, then_assoc}
use Rattle.refusals.proofs.Promises.{says_refused, says_fine, says_after}
use Rattle.rules.specs.Words.{rule_count}
use Rattle.rules.specs.Good.{list_verdict}
use Rattle.trees.specs.Words.{node_count, size_verdict}
use Rattle.trees.specs.Spelt.{Spelt, spelt_verdict}
use Rattle.trees.proofs.Spelling.{spelt_fine_iff}
use Rattle.tree_check.specs.TreeCheck.{root_part, lack_verdict, end_verdict, part_verdict, figures}
use Rattle.tree_check.specs.TreeCheck.{list_and_sizes, words_verdict, check_verdict, TreeChecked}
use Rattle.tree_check.specs.Steps.{Judged}

-- ---- the root's part

module _ (m next : ℕ) (lack : Option Lack) where
  -- a node left over is refused
  pub end_left_over : (next ≡ m → ⊥) → verdict.Refused (NodeWrong next) ≡ end_verdict m next lack
  end_left_over n = sym (then_refused _ (fails_refused _ (ne_eqb next m n)))

  module _ (q : next ≡ m) where
    whole : lack_verdict lack ≡ end_verdict m next lack
    whole = sym (then_fine (lack_verdict lack) (holds_fine (NodeWrong next) (eq-eqb next m q)))

    -- where none is left over, and nothing lacks, it is fine
    pub end_complete : lack ≡ Complete → verdict.Fine ≡ end_verdict m next lack
    end_complete c = sym (ap lack_verdict c) ∙ whole

    -- a leaf that lacks a rule is refused
    pub end_lacking :
        {node rule : ℕ} → lack ≡ Lacks node rule → verdict.Refused (LeafLacksRule node rule) ≡ end_verdict m next lack
    end_lacking c = sym (ap lack_verdict c) ∙ whole

-- a part that is refused is the refusal
pub judged_refused : (m : ℕ) (p : Result Part Refusal) {why : Refusal} → p ≡ Err why → Judged m p (Err why)
judged_refused m p e = says_refused (ap (part_verdict m) e) refl

module _ (m : ℕ) (p : Result Part Refusal) {next cuts longest : ℕ} {lack : Option Lack} (e : p ≡ Good next cuts longest lack) where
  -- so is a refusal at its end
  pub judged_end : {why : Refusal} → end_verdict m next lack ≡ verdict.Refused why → Judged m p (Err why)
  judged_end q = says_refused (ap (part_verdict m) e ∙ q) refl

  -- where its end is fine the tree is accepted
  pub judged_accepted : end_verdict m next lack ≡ verdict.Fine → Judged m p (Accepted cuts longest)
  judged_accepted q = says_fine (ap (part_verdict m) e ∙ q) (sym (ap (λ (x : Result Part Refusal). success (figures x)) e))

-- ---- the whole check

module _ (rs nodes pool : List ℕ) where
  -- words that are refused are the refusal
  pub words_refused :
      {why : Refusal} → words_verdict rs nodes pool ≡ verdict.Refused why → TreeChecked rs nodes pool (Err why)
  unfolding check_verdict
  words_refused e = says_refused (then_refused _ e) refl

  -- where they are not refused the root's part decides
  pub part_decides :
      words_verdict rs nodes pool ≡ verdict.Fine → {p : Result Part Refusal} {r : Result Figures Refusal} → p ≡ root_part rs nodes pool →
      Judged (node_count nodes) p r → TreeChecked rs nodes pool r
  unfolding check_verdict
  part_decides e q j = says_after e (rw q at j)

-- ---- the words

-- the words are fine exactly where the list is, the sizes are, and the tree is spelt
pub words_fine_iff :
    (rs nodes pool : List ℕ) → (words_verdict rs nodes pool ≡ verdict.Fine) ↔
    ((list_verdict rs ≡ verdict.Fine) × (size_verdict nodes pool ≡ verdict.Fine) × Spelt (rule_count rs) nodes pool)
unfolding words_verdict
words_fine_iff rs nodes pool = (
  λ e.
      let s = (then_fine_iff _ _).0 e in
      let t = (then_fine_iff _ _).0 s.1 in
      (s.0, t.0, (spelt_fine_iff (rule_count rs) nodes pool).0 t.1),
  λ h. (then_fine_iff _ _).1 (h.0, (then_fine_iff _ _).1 (h.1, (spelt_fine_iff (rule_count rs) nodes pool).1 h.2)),
)

module _ (rs nodes pool : List ℕ) where
  -- a list or sizes that are refused are the refusal
  pub early_refused :
      {why : Refusal} → list_and_sizes rs nodes pool ≡ verdict.Refused why →
      verdict.Refused why ≡ words_verdict rs nodes pool
  unfolding words_verdict
  early_refused e = sym (then_refused _ e) ∙ then_assoc (list_verdict rs) (size_verdict nodes pool) _

  -- else the words of the nodes decide
  pub spelt_decides :
      list_and_sizes rs nodes pool ≡ verdict.Fine →
      spelt_verdict (rule_count rs) nodes pool ≡ words_verdict rs nodes pool
  unfolding words_verdict
  spelt_decides e = sym (then_fine _ e) ∙ then_assoc (list_verdict rs) (size_verdict nodes pool) _
