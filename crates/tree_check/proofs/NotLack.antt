-- Which refusals the stages of the check give: none before the last gives 8, so that 8 and acceptance come of the last
-- alone; and *spelt* gives 6 or 7.
use Prim.Native.Nat.{ℕ}
use native.Mathlib.Omega.{arith}
use mathlib.Core.Path.{◌≡◌, refl, subst}
use mathlib.Core.List.{List}
use Rattle.refusals.specs.declared.Refusal.{Refusal}
use Rattle.refusals.specs.declared.Refusal.TheVariants.{RuleHasTwin}
use Rattle.refusals.specs.declared.Refusal.TheVariants.{TreeWordsWrong, NodeWrong, LeafWrong}
use Rattle.refusals.specs.Verdict.{Verdict}
use Rattle.refusals.specs.Verdict.{Fine, Refused}
use Rattle.refusals.specs.Table.{number_of}
use Rattle.refusals.specs.Order.{◌then◌}
use Rattle.rules.specs.Words.{rule_count, largest_action}
use Rattle.rules.specs.Good.{list_verdict_to, list_verdict}
use Rattle.rules.specs.Twins.{twin_verdict, twins_verdict}
use Rattle.rules.proofs.Lists.{rules_only}
use Rattle.trees.specs.Words.{size_verdict}
use Rattle.trees.specs.Spelt.{is_cut, node_verdict, spelt_verdict}
use Rattle.tree_check.specs.TreeCheck.{words_verdict}
use Rattle.refusals.proofs.Only.{Only, fine, refused, only_wider}
use Rattle.refusals.proofs.Only.{unless_only, then_only, turns_only, cond_only}

-- a refusal is not 8, which says that a leaf lacks a rule
abbrev pub NotLack : Refusal → Type 0
NotLack why = number_of why ≡ 8 → ⊥

-- a refusal is 6 or 7
pub data Malformed : Refusal → Type 0 where
  six : {i : ℕ} → Malformed (NodeWrong i)
  seven : {i : ℕ} → Malformed (LeafWrong i)

-- then it is not 8
pub not_lack_of_malformed : (why : Refusal) → Malformed why → NotLack why
not_lack_of_malformed why six e = omega arith
not_lack_of_malformed why seven e = omega arith

-- a verdict that only the last stage gives: fine, or 8
abbrev pub Last : Verdict → Type 0
Last Fine = Unit {0}
Last (Refused why) = number_of why ≡ 8

-- another refusal is no such verdict
pub not_last {ℓ} : {A : Type ℓ} {why : Refusal} {u : Verdict} → NotLack why → Last u → Refused why ≡ u → A
not_last n l e = absurd (subst (λ (u : Verdict). Last u → ⊥) e n l)

-- where two checks in order give what only the last gives, the first is fine and the second gives it
pub then_last : {v w u : Verdict} → Only NotLack v → Last u → (v then w) ≡ u → (v ≡ Fine) × (w ≡ u)
unfolding ◌then◌
then_last fine l e = (refl, e)
then_last (refused n) l e = not_last n l e

-- ---- the stages

-- the rule check never says that a leaf lacks a rule
pub list_no_lack : (rs : List ℕ) → Only NotLack (list_verdict rs)
unfolding list_verdict_to twins_verdict twin_verdict
list_no_lack rs =
    then_only (only_wider (λ why l e. omega arith) (rules_only largest_action rs))
    (turns_only _ _ _ (λ r. unless_only _ (RuleHasTwin r _) (λ e. omega arith)))

-- nor do the sizes
pub sizes_no_lack : (nodes pool : List ℕ) → Only NotLack (size_verdict nodes pool)
unfolding size_verdict
sizes_no_lack nodes pool =
    then_only (unless_only _ TreeWordsWrong (λ e. omega arith))
    (then_only (unless_only _ TreeWordsWrong (λ e. omega arith))
    (then_only (unless_only _ TreeWordsWrong (λ e. omega arith)) (unless_only _ TreeWordsWrong (λ e. omega arith))))

-- a node that is not spelt is refused with 6 or 7
node_malformed : (n : ℕ) (nodes pool : List ℕ) (i : ℕ) → Only Malformed (node_verdict n nodes pool i)
unfolding node_verdict
node_malformed n nodes pool i =
    then_only (unless_only _ (NodeWrong i) six)
    (cond_only (is_cut nodes i) (unless_only _ (NodeWrong i) six) (unless_only _ (LeafWrong i) seven))

-- *spelt* is refused with 6 or 7
pub spelt_malformed : (n : ℕ) (nodes pool : List ℕ) → Only Malformed (spelt_verdict n nodes pool)
unfolding spelt_verdict
spelt_malformed n nodes pool =
    then_only (turns_only _ _ _ (node_malformed n nodes pool)) (unless_only _ (LeafWrong _) seven)

-- so the words never say that a leaf lacks a rule
pub words_no_lack : (rs nodes pool : List ℕ) → Only NotLack (words_verdict rs nodes pool)
unfolding words_verdict
words_no_lack rs nodes pool =
    then_only (list_no_lack rs)
    (then_only (sizes_no_lack nodes pool)
    (only_wider not_lack_of_malformed (spelt_malformed (rule_count rs) nodes pool)))
