-- Which boxes are parted, the other way round: where enough boxes meet, and one of them ends within.
use Prim.Native.Nat.{ℕ, ◌≤◌, ◌<◌}
use native.Mathlib.Omega.{arith}
use mathlib.Core.Bool.{true, false}
use mathlib.Core.Path.{◌≡◌, refl}
use mathlib.Core.List.{List, [], ◌∷◌}
use lib.ListN.{length}
use borrow.Author.Tests.{lt-leb, ne_eqb}
use Rattle.facts.specs.Lists.{has}
use Rattle.facts.proofs.Bools.{clash}
use Rattle.fields.specs.Words.{field_count}
use Rattle.fields.specs.Boxes.{low_of, high_of, root_box}
use Rattle.fields.specs.Cuts.{left_of}
use Rattle.built.specs.Boxes.{meeting, boxes_of}
use Rattle.built.specs.CutValues.{cuts_at, cut_values, cut_count, chosen_field, chosen_value, most_in_leaf, stops}
use Rattle.built.specs.Layout.{size}
use Rattle.built.specs.BuiltTree.{built_tree}
use Rattle.built.proofs.CutValues.{cut_value_iff}
use Rattle.built.proofs.Chosen.{chosen_most}
use Rattle.built.proofs.GrownTrees.{grown_divided}
use Rattle.built.proofs.FullTrees.{full_some, grown_full}

-- a list that has something is not empty
some_of_has : (l : List ℕ) (v : ℕ) → has l v ≡ true → 0 < length l
unfolding has
some_of_has [] v e = clash e refl
some_of_has (x ∷ xs) v e = omega arith

-- a box that more boxes meet than a leaf may list is parted, where one of them ends within it in some field
pub parted_of :
    (n : ℕ) (boxes : List (List (List ℕ))) (b : List (List ℕ)) (f v : ℕ) → f < n →
    most_in_leaf < length (meeting n boxes b) → low_of b f ≤ v → v < high_of b f → cuts_at n boxes b f v ≡ true →
    stops n boxes b ≡ false
unfolding stops
parted_of n boxes b f v there many low high cuts =
    let some = some_of_has (cut_values n boxes b f) v ((cut_value_iff n boxes b f v).1 (low, high, cuts)) in
    let most = chosen_most n boxes b (omega arith) f there in
    rw (
      lt-leb (length (meeting n boxes b)) most_in_leaf many,
      ne_eqb (cut_count n boxes b (chosen_field n boxes b)) 0 (λ q. omega arith),
    )

-- the tree of such a list has more than one node
pub many_nodes :
    (rs : List ℕ) (f v : ℕ) → f < field_count → most_in_leaf < length (meeting field_count (boxes_of rs) root_box) →
    low_of root_box f ≤ v → v < high_of root_box f → cuts_at field_count (boxes_of rs) root_box f v ≡ true →
    1 < size (built_tree rs)
unfolding built_tree size
many_nodes rs f v there many low high cuts =
    let boxes = boxes_of rs in
    let split = parted_of field_count boxes root_box f v there many low high cuts in
    let left = left_of root_box (chosen_field field_count boxes root_box) (chosen_value field_count boxes root_box) in
    rw (grown_divided field_count boxes root_box 62 split)
    (omega (arith, full_some (grown_full 62 field_count boxes left)))
