-- The tree that is built, as a value apart from any words. Definitions only.
--   Tree                  a leaf with its entries; or a cut with its field, its value, its left part and its right
--                         part; or a bud: a part that is not begun, in a tree that is not whole
--   grown k n boxes b     the tree of box b, with k more cuts allowed: a leaf of all that meet b where it stops or no
--                         more cuts are allowed, else cut at the chosen value of the chosen field
use Rattle.std.specs.Prelude.{ℕ, zero, suc, Bool, true, false, List}
use Rattle.fields.specs.Cuts.{left_of, right_of}
use Rattle.built.specs.Boxes.{meeting}
use Rattle.built.specs.CutValues.{chosen_field, chosen_value, stops}

pub data Tree : Type 0 where
  bud : Tree
  leaf : List ℕ → Tree
  cut : ℕ → ℕ → Tree → Tree → Tree

-- by a test, one of two; each waits until it is picked
abbrev pub pick : Bool → (Unit {0} → Tree) → (Unit {0} → Tree) → Tree
pick true f g = f tt
pick false f g = g tt

unfoldable pub grown : ℕ → ℕ → List (List (List ℕ)) → List (List ℕ) → Tree
grown zero n boxes b = leaf (meeting n boxes b)
grown (suc k) n boxes b =
    pick (stops n boxes b)
    (λ _. leaf (meeting n boxes b))
    (λ _.
    let f = chosen_field n boxes b in
    let v = chosen_value n boxes b in
    cut f v (grown k n boxes (left_of b f v)) (grown k n boxes (right_of b f v)))
