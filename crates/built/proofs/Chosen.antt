-- The choice of a cut: its field is one of the n, no field has more cut values, and its value divides the box.
use Prim.Native.Nat.{ℕ, ◌/◌, ◌≤◌, ◌<◌}
use native.Mathlib.Omega.{arith}
use mathlib.Core.Bool.{true, false}
use mathlib.Core.Path.{◌≡◌, refl}
use mathlib.Core.List.{List}
use lib.ListN.{length}
use lib.Dec.{leb, eqb}
use borrow.Author.Tests.{leb-true, le-leb, leb-false, eqb-false}
use Rattle.facts.proofs.Bools.{clash, neither}
use Rattle.facts.proofs.Below.{all_below_at, all_below_of}
use Rattle.facts.proofs.Lowest.{lowest_at_most, lowest_passes, lowest_none_iff}
use Rattle.facts.proofs.Cases.{Order, below, same, above, order}
use Rattle.facts.proofs.Largest.{LargestAt, largest_at}
use Rattle.fields.specs.Cuts.{divides}
use Rattle.fields.proofs.Cuts.{divides_iff}
use Rattle.built.specs.Boxes.{meeting}
use Rattle.built.specs.CutValues.{cut_count, has_most, chosen_field, chosen_value, most_in_leaf, stops}
use Rattle.built.proofs.CutValues.{cut_value_at}

module _ (n : ℕ) (boxes : List (List (List ℕ))) (b : List (List ℕ)) where
  -- a field that has the most cut values has no fewer than any other
  pub most_at : (f : ℕ) → has_most n boxes b f ≡ true → (g : ℕ) → g < n → cut_count n boxes b g ≤ cut_count n boxes b f
  unfolding has_most
  most_at f e g l = leb-true _ _ (all_below_at n (λ g. leb (cut_count n boxes b g) (cut_count n boxes b f)) e g l)

  -- a field that has no fewer than any other has the most
  pub most_of : (f : ℕ) → ((g : ℕ) → g < n → cut_count n boxes b g ≤ cut_count n boxes b f) → has_most n boxes b f ≡ true
  unfolding has_most
  most_of f h = all_below_of n _ (λ g l. le-leb _ _ (h g l))

  module _ (some_field : 0 < n) where
    -- the chosen field is one of the n
    pub chosen_there : chosen_field n boxes b < n
    unfolding chosen_field
    chosen_there = go (order (chosen_field n boxes b) n)
      where
        w : LargestAt n (λ f. cut_count n boxes b f)
        w = largest_at n (λ f. cut_count n boxes b f) some_field

        go : Order (chosen_field n boxes b) n → chosen_field n boxes b < n
        go (below l) = l
        go (same q) =
            clash (most_of w.at w.most) ((lowest_none_iff n (has_most n boxes b)).0 q w.at w.there)
        go (above l) = absurd (omega (arith, lowest_at_most n (has_most n boxes b)))

    -- no field has more cut values than the chosen one
    pub chosen_most : (g : ℕ) → g < n → cut_count n boxes b g ≤ cut_count n boxes b (chosen_field n boxes b)
    unfolding chosen_field
    chosen_most = most_at (chosen_field n boxes b) (lowest_passes n (has_most n boxes b) _ refl chosen_there).0

    -- no field before the chosen one has the most cut values
    pub chosen_first : (g : ℕ) → g < chosen_field n boxes b → has_most n boxes b g ≡ false
    unfolding chosen_field
    chosen_first = (lowest_passes n (has_most n boxes b) _ refl chosen_there).1

  module _ (go_on : stops n boxes b ≡ false) where
    -- where a box is parted, more boxes meet it than a leaf may list
    pub parted_many : most_in_leaf < length (meeting n boxes b)
    unfolding stops
    parted_many =
        leb-false (length (meeting n boxes b)) most_in_leaf
        (neither (leb (length (meeting n boxes b)) most_in_leaf) (eqb (cut_count n boxes b (chosen_field n boxes b)) 0)
        go_on).0

    -- where a box is parted, the chosen field has a cut value
    pub parted_cuts : 0 < cut_count n boxes b (chosen_field n boxes b)
    unfolding stops
    parted_cuts =
        let c : ℕ = cut_count n boxes b (chosen_field n boxes b) in
        let some : c ≡ 0 → ⊥ =
        eqb-false c 0 (neither (leb (length (meeting n boxes b)) most_in_leaf) (eqb c 0) go_on).1 in
        omega arith

    -- where a box is parted, the chosen value divides it in the chosen field
    pub chosen_divides : divides b (chosen_field n boxes b) (chosen_value n boxes b) ≡ true
    unfolding chosen_value
    chosen_divides =
        let f = chosen_field n boxes b in
        let t = cut_value_at n boxes b f (cut_count n boxes b f / 2) (omega (arith, parted_cuts)) in
        (divides_iff b f _).1 (t.0, t.1)
