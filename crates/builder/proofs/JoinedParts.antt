-- A cut that is seen, and what its parts come to: a refusal, or the cut with both parts.
use Rattle.std.specs.Prelude.{Err, Result}
use Rattle.builder.specs.declared.grow.Grown.{Grown}
use Rattle.builder.specs.Said.{Grows}
use Prim.Native.Nat.{ℕ, ◌+◌, ◌-◌, ◌*◌, ◌<◌}
use native.Mathlib.Omega.{arith}
use mathlib.Core.Bool.{Bool}
use mathlib.Core.Path.{◌≡◌, subst, ◌∙◌}
use mathlib.Core.List.{List, [], ◌∷◌}
use lib.Seq.{sets}
use Rattle.refusals.specs.declared.Refusal.{Refusal}
use Rattle.fields.specs.Words.{field_count}
use Rattle.fields.specs.Cuts.{left_part, right_part}
use Rattle.trees.specs.Words.{node_words}
use Rattle.built.specs.Trees.{Tree, cut}
use Rattle.built.specs.Layout.{size, right_child}
use Rattle.built.specs.GrownOn.{grown_on}
use Rattle.built.specs.Stops.{up_to, child_before}
use Rattle.built.proofs.FullTrees.{full_some, on_full}
use Rattle.built.proofs.Stopping.{up_to_cut, up_to_right, up_to_child}
use Rattle.builder.specs.declared.grow.Spot.{Spot}
use Rattle.builder.specs.declared.grow.Room.{Room}
use Rattle.builder.specs.BoxWords.{boxes_in}
use Rattle.builder.specs.Growing.{tree_at, grown_at, left_spot, right_spot, GrownPart}
use Rattle.builder.proofs.ChoiceTrees.{tree_cut}
use Rattle.builder.proofs.PartAnswers.{part_says}
use Rattle.builder.proofs.PartsGrown.{cut_refused, cut_grown}
use Rattle.builder.proofs.Seeing.{SeenCut}

module _ {ws standing kept : List ℕ} {b : List (List ℕ)} {spot : Spot} {room : Room} {met : List ℕ}
    {f v count : ℕ} (s : SeenCut ws standing kept b spot room met f v count) where
  left_tree : Tree
  left_tree = tree_at ws standing kept (left_part b f v) (left_spot spot)

  right_tree : ℕ → Tree
  right_tree j = grown_on (spot.cuts - 1) field_count (boxes_in ws) standing kept (right_part b f v) j

  right_some : (j : ℕ) → 0 < size (right_tree j)
  unfolding right_tree
  right_some j = full_some (on_full (spot.cuts - 1) field_count (boxes_in ws) standing kept (right_part b f v) j)

  -- what is grown of it is a cut, of what is grown of its parts
  cut_grows :
      grown_at ws standing kept b spot room ≡
      cut f v (up_to room.end left_tree (spot.node + 1))
      (up_to room.end (right_tree (spot.node + 1 + size left_tree)) (spot.node + 1 + size left_tree))
  unfolding left_tree right_tree
  cut_grows =
      rw (tree_cut field_count (boxes_in ws) standing kept b spot.node spot.cuts s.chosen).1
      (up_to_cut room.end f v _ _ spot.node s.before)

  -- a cut whose left part is refused is refused so
  pub left_part_refused :
      {d : List (List ℕ)} {at : Spot} {nodes pool nodes₁ pool₁ nodes' pool' : List ℕ} {r : Result Grown Refusal} {why : Refusal} →
      d ≡ left_part b f v → at ≡ left_spot spot →
      GrownPart (grown_at ws standing kept d at room) at room nodes pool r nodes₁ pool₁ → r ≡ Err why →
      GrownPart (grown_at ws standing kept b spot room) spot room nodes pool (Err why) nodes' pool'
  unfolding left_tree
  left_part_refused p q w e =
      rw cut_grows (cut_refused f v _ _ spot room s.there (rw (p, q) at w) e)

  module _ {d : List (List ℕ)} {at : Spot} {nodes pool nodes₁ pool₁ : List ℕ} {r : Result Grown Refusal} {next entries : ℕ}
      {o : Bool} (p : d ≡ left_part b f v) (q : at ≡ left_spot spot)
      (w : GrownPart (grown_at ws standing kept d at room) at room nodes pool r nodes₁ pool₁)
      (e : r ≡ Grows next entries o) where
    left_grown :
        GrownPart (up_to room.end left_tree (spot.node + 1)) (left_spot spot) room nodes pool r nodes₁ pool₁
    unfolding left_tree
    left_grown = rw (p, q) at w

    right_there :
        {d' : List (List ℕ)} {at' : Spot} {nodes₂ nodes' pool' : List ℕ} {r' : Result Grown Refusal} → d' ≡ right_part b f v →
        at' ≡ right_spot spot next entries →
        GrownPart (grown_at ws standing kept d' at' room) at' room nodes₂ pool₁ r' nodes' pool' →
        GrownPart (up_to room.end (right_tree next) next) (right_spot spot next entries) room nodes₂ pool₁ r' nodes'
        pool'
    unfolding right_tree
    right_there p' q' right = rw (p', q') at right

    -- its left part, its own words and its right part make the cut
    pub parts_joined :
        {d' : List (List ℕ)} {at' : Spot} {child : ℕ} {nodes₂ nodes' pool' : List ℕ} {r' : Result Grown Refusal} →
        child ≡ child_before room.end next →
        nodes₂ ≡ sets nodes₁ (spot.node * node_words) (f ∷ v ∷ child ∷ []) → d' ≡ right_part b f v →
        at' ≡ right_spot spot next entries →
        GrownPart (grown_at ws standing kept d' at' room) at' room nodes₂ pool₁ r' nodes' pool' →
        GrownPart (grown_at ws standing kept b spot room) spot room nodes pool r' nodes' pool'
    parts_joined c stored p' q' right =
        rw cut_grows
        (cut_grown f v _ _ spot room s.there left_grown e (c ∙ child_is) stored (right_grown p' q' right))
      where
        right_side : Tree
        right_side =
            up_to room.end (right_tree (spot.node + 1 + size left_tree)) (spot.node + 1 + size left_tree)

        after : next ≡ spot.node + 1 + size (up_to room.end left_tree (spot.node + 1))
        after = (part_says left_grown e).1

        child_is : child_before room.end next ≡ right_child right_side next
        child_is =
            rw after
            (up_to_child room.end left_tree (right_tree (spot.node + 1 + size left_tree)) (spot.node + 1)
            (omega (arith, s.before)) (right_some (spot.node + 1 + size left_tree)))

        right_grown :
            {d' : List (List ℕ)} {at' : Spot} {nodes₂ nodes' pool' : List ℕ} {r' : Result Grown Refusal} → d' ≡ right_part b f v →
            at' ≡ right_spot spot next entries →
            GrownPart (grown_at ws standing kept d' at' room) at' room nodes₂ pool₁ r' nodes' pool' →
            GrownPart right_side (right_spot spot next entries) room nodes₂ pool₁ r' nodes' pool'
        right_grown {nodes₂ = nodes₂} {nodes'} {pool'} {r'} p' q' right =
            subst
            (λ (y : Tree). GrownPart y (right_spot spot next entries) room nodes₂ pool₁ r' nodes' pool')
            (rw after (up_to_right room.end left_tree (spot.node + 1) right_tree (omega (arith, s.before))))
            (right_there p' q' right)
