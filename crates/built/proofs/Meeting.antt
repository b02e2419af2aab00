-- The boxes that meet a box, by their numbers; and the boxes of the rules of a list.
use Prim.Native.Nat.{ℕ, ◌≤◌, ◌<◌}
use native.Mathlib.Omega.{arith}
use native.Mathlib.Nat.{zero-add}
use mathlib.Core.Bool.{Bool, true}
use mathlib.Core.Path.{◌≡◌, ap, ◌∙◌}
use mathlib.Core.Logic.{◌↔◌}
use mathlib.Core.List.{List, []}
use lib.ListN.{length, length-map}
use Rattle.facts.specs.Lists.{up_from, has, rises}
use Rattle.facts.proofs.Steps.{length_up}
use Rattle.facts.proofs.Tables.{get_or_map_in}
use Rattle.facts.proofs.Members.{kept_iff, up_iff}
use Rattle.facts.proofs.Rising.{rises_kept, rises_up}
use Rattle.facts.proofs.Filling.{keep_at_most}
use Rattle.facts.proofs.Places.{get_or_up}
use Rattle.fields.specs.Boxes.{meets}
use Rattle.rules.specs.Words.{rule_count}
use Rattle.rules.specs.Matching.{rule_box}
use Rattle.built.specs.Boxes.{box_of, meeting, boxes_of}

module _ (n : ℕ) (boxes : List (List (List ℕ))) (b : List (List ℕ)) where
  -- a number is listed exactly where it is a box's number and that box meets b
  pub meeting_iff :
      (r : ℕ) →
      (has (meeting n boxes b) r ≡ true) ↔ ((r < length boxes) × (meets n (box_of boxes r) b ≡ true))
  unfolding meeting
  meeting_iff r = (
    λ e. let t = (kept_iff test (up_from 0 (length boxes)) r).0 e in ((up_iff (length boxes) r).0 t.0, t.1),
    λ h. (kept_iff test (up_from 0 (length boxes)) r).1 ((up_iff (length boxes) r).1 h.0, h.1),
  )
    where
      test : ℕ → Bool
      test r = meets n (box_of boxes r) b

  -- the list rises
  pub meeting_rises : rises 0 (meeting n boxes b) ≡ true
  unfolding meeting
  meeting_rises = rises_kept _ 0 (up_from 0 (length boxes)) (rises_up (length boxes) 0)

  -- no more boxes meet b than there are
  pub meeting_at_most : length (meeting n boxes b) ≤ length boxes
  unfolding meeting
  meeting_at_most =
      omega
      (arith, keep_at_most (λ r. meets n (box_of boxes r) b) (up_from 0 (length boxes)), length_up (length boxes) 0)

module _ (rs : List ℕ) where
  -- there are as many boxes as rules
  pub length_boxes : length (boxes_of rs) ≡ rule_count rs
  unfolding boxes_of
  length_boxes = length-map (up_from 0 (rule_count rs)) (rule_box rs) ∙ length_up (rule_count rs) 0

  -- box r is that of rule r
  pub box_of_rule : (r : ℕ) → r < rule_count rs → box_of (boxes_of rs) r ≡ rule_box rs r
  unfolding boxes_of
  box_of_rule r l =
      get_or_map_in (rule_box rs) (up_from 0 (rule_count rs)) r 0 [] (omega (arith, length_up (rule_count rs) 0)) ∙
      ap (rule_box rs) (get_or_up (rule_count rs) 0 r l ∙ zero-add r)
