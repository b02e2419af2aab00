-- The tree of a box: its equations.
use Prim.Native.Nat.{ℕ, suc}
use mathlib.Core.Bool.{true, false}
use mathlib.Core.Path.{◌≡◌, refl}
use mathlib.Core.List.{List}
use Rattle.fields.specs.Cuts.{left_of, right_of}
use Rattle.built.specs.Boxes.{meeting}
use Rattle.built.specs.CutValues.{chosen_field, chosen_value, stops}
use Rattle.built.specs.Trees.{leaf, cut, grown}

module _ (n : ℕ) (boxes : List (List (List ℕ))) (b : List (List ℕ)) where
  -- where no more cuts are allowed it is a leaf of all that meet the box
  pub grown_zero : grown 0 n boxes b ≡ leaf (meeting n boxes b)
  unfolding grown
  grown_zero = refl

  module _ (k : ℕ) where
    -- where the box is not parted it is a leaf of all that meet it
    pub grown_stops : stops n boxes b ≡ true → grown (suc k) n boxes b ≡ leaf (meeting n boxes b)
    unfolding grown
    grown_stops e = rw e

    -- else it is a cut at the chosen value of the chosen field, with the trees of the two sides
    pub grown_divided :
        stops n boxes b ≡ false →
        grown (suc k) n boxes b ≡
        cut (chosen_field n boxes b) (chosen_value n boxes b)
        (grown k n boxes (left_of b (chosen_field n boxes b) (chosen_value n boxes b)))
        (grown k n boxes (right_of b (chosen_field n boxes b) (chosen_value n boxes b)))
    unfolding grown
    grown_divided e = rw e
