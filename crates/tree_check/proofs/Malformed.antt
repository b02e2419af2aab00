-- Refusals 6 and 7: with a good list and sizes that hold, they are given exactly where the tree is not well formed.
use Rattle.tree_check.specs.declared.preorder.Part.{Part}
use Rattle.tree_check.specs.declared.preorder.Lack.{Lack}
use Rattle.tree_check.specs.Said.{Complete}
use Rattle.std.specs.Prelude.{Err, Option, Result, Ok, Some}
use Prim.Native.Nat.{ℕ}
use native.Mathlib.Omega.{arith}
use mathlib.Core.Bool.{false}
use mathlib.Core.Path.{◌≡◌, refl, sym, subst, ◌∙◌}
use mathlib.Core.Logic.{◌↔◌, ◌⊎◌, inl, inr}
use mathlib.Core.List.{List}
use Rattle.refusals.specs.declared.Refusal.{Refusal}
use Rattle.refusals.specs.declared.Refusal.TheVariants.{NodeWrong, LeafWrong, LeafLacksRule}
use Rattle.refusals.specs.Verdict.{Verdict}
use Rattle.refusals.specs.Verdict as verdict
use Rattle.refusals.proofs.Order.{refused_not_fine, then_fine}
use Rattle.fields.specs.Boxes.{root_box}
use Rattle.rules.specs.Words.{rule_count}
use Rattle.rules.specs.Good.{list_verdict}
use Rattle.trees.specs.Words.{node_count, size_verdict}
use Rattle.tree_check.specs.Whole.{most_cuts, WellFormed}
use Rattle.tree_check.specs.TreeCheck.{root_part, lack_verdict, part_verdict, words_verdict}
use Rattle.tree_check.specs.TreeCheck.{check_verdict, TreeChecked}
use Rattle.refusals.proofs.Only.{Only, fine, refused, only_wider, unless_only, then_only}
use Rattle.tree_check.proofs.NotLack.{Malformed, six, seven, spelt_malformed}
use Rattle.tree_check.proofs.Built.{part_malformed}
use Rattle.tree_check.proofs.Stages.{lack_decides, proper, reaches}
use Rattle.tree_check.proofs.Accepts.{accepted}
use Rattle.tree_check.proofs.Eight.{eight_iff}
use Rattle.tree_check.proofs.Answers.{refused_iff}

-- a refusal is 6, 7 or 8
pub data OfTree : Refusal → Type 0 where
  malformed : {why : Refusal} → Malformed why → OfTree why
  lacks : {i r : ℕ} → OfTree (LeafLacksRule i r)

lack_of_tree : (y : Option Lack) → Only OfTree (lack_verdict y)
lack_of_tree Complete = fine
lack_of_tree (Some lack) = refused lacks

-- what the root's part says of a tree refuses with these alone, where the part is refused with 6 or 7
pub part_of_tree :
    (m : ℕ) (p : Result Part Refusal) → ((why : Refusal) → p ≡ Err why → Malformed why) → Only OfTree (part_verdict m p)
part_of_tree m (Err why) f = refused (malformed (f why refl))
part_of_tree m (Ok p) f = then_only (unless_only _ (NodeWrong p.next) (malformed six)) (lack_of_tree p.lack)

-- 6 and 7 are not what the last stage says
pub not_of_lack : (y : Option Lack) {why : Refusal} → Malformed why → lack_verdict y ≡ verdict.Refused why → ⊥
not_of_lack Complete m e = refused_not_fine (sym e)
not_of_lack (Some lack) six e = let z : ◌≡◌ {A = ℕ} 0 1 = cc in omega arith
not_of_lack (Some lack) seven e = let z : ◌≡◌ {A = ℕ} 0 1 = cc in omega arith

module _
    (rs nodes pool : List ℕ) (list : list_verdict rs ≡ verdict.Fine) (size : size_verdict nodes pool ≡ verdict.Fine) where
  -- the check then refuses with 6, 7 or 8 alone
  check_of_tree : Only OfTree (check_verdict rs nodes pool)
  unfolding check_verdict words_verdict root_part
  check_of_tree =
      then_only
      (subst (Only OfTree) (sym (then_fine _ list ∙ then_fine _ size))
      (only_wider (λ why m. malformed m) (spelt_malformed (rule_count rs) nodes pool)))
      (part_of_tree (node_count nodes) _ (part_malformed false rs nodes pool most_cuts root_box 0))

  -- a well-formed tree is not refused with 6 or 7
  not_refused :
      {why : Refusal} → Malformed why → TreeChecked rs nodes pool (Err why) →
      WellFormed (rule_count rs) nodes pool → ⊥
  not_refused m p w =
      let t = reaches (record { list = list; sizes = size; formed = w }) in
      not_of_lack t.2 m (sym (lack_decides t.3) ∙ (refused_iff _ _ _).0 p)

  -- a tree that is not well formed is refused with 6 or 7
  refuses_malformed :
      (WellFormed (rule_count rs) nodes pool → ⊥) → {v : Verdict} → check_verdict rs nodes pool ≡ v → Only OfTree v →
      (i : ℕ) × (TreeChecked rs nodes pool (Err (NodeWrong i)) ⊎ TreeChecked rs nodes pool (Err (LeafWrong i)))
  refuses_malformed bad e fine = absurd (bad (proper (accepted rs nodes pool e).2).formed)
  refuses_malformed bad e (refused (malformed (six {i}))) = (i, inl ((refused_iff _ _ _).1 e))
  refuses_malformed bad e (refused (malformed (seven {i}))) = (i, inr ((refused_iff _ _ _).1 e))
  refuses_malformed bad e (refused (lacks {i} {r})) =
      absurd (bad ((eight_iff rs nodes pool).0 (i, r, e)).proper.formed)

  -- the check refuses with 6 or 7 exactly where the tree is not well formed
  pub malformed_iff :
      ((i : ℕ) ×
      (TreeChecked rs nodes pool (Err (NodeWrong i)) ⊎ TreeChecked rs nodes pool (Err (LeafWrong i)))) ↔
      (WellFormed (rule_count rs) nodes pool → ⊥)
  malformed_iff = (λ t. to t.1, λ bad. refuses_malformed bad refl check_of_tree)
    where
      to :
          {i : ℕ} →
          TreeChecked rs nodes pool (Err (NodeWrong i)) ⊎ TreeChecked rs nodes pool (Err (LeafWrong i)) →
          WellFormed (rule_count rs) nodes pool → ⊥
      to (inl p) = not_refused six p
      to (inr p) = not_refused seven p
