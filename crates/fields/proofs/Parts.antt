-- The parts of a cut lie in the box that is cut, and have as many pairs.
use Prim.Native.Nat.{ℕ, ◌≤◌, ◌<◌}
use native.Mathlib.Omega.{arith}
use mathlib.Core.Bool.{true, false}
use mathlib.Core.Path.{◌≡◌}
use mathlib.Core.Logic.{◌⊎◌, inl, inr}
use mathlib.Core.List.{List}
use Rattle.facts.proofs.Bools.{sure}
use Rattle.facts.proofs.Cases.{same_or_not}
use Rattle.fields.specs.Boxes.{low_of, high_of, Pairs}
use Rattle.fields.specs.Cuts.{divides, left_of, right_of, left_part, right_part}
use Rattle.fields.proofs.Cuts.{
  divides_iff,
  divided_there,
  left_divided,
  right_divided,
  left_whole,
  right_whole,
}
use Rattle.fields.proofs.Cutting.{
  pairs_left,
  pairs_right,
  low_left,
  high_left,
  high_left_other,
  high_right,
  low_right,
  low_right_other,
}

-- box d lies in box b: in each of n fields it begins no earlier and ends no later
abbrev pub Within : ℕ → List (List ℕ) → List (List ℕ) → Type 0
Within n d b = (f : ℕ) → f < n → (low_of b f ≤ low_of d f) × (high_of d f ≤ high_of b f)

-- a box lies in itself
within_itself : (n : ℕ) (b : List (List ℕ)) → Within n b b
within_itself n b f l = (omega arith, omega arith)

module _ (n : ℕ) (b : List (List ℕ)) (p : Pairs n b) (f v : ℕ) where
  module _ (e : divides b f v ≡ true) where
    field : f < n
    field = divided_there b f v p.fields e

    left_side_within : Within n (left_of b f v) b
    left_side_within g l = go (same_or_not g f)
      where
        go : (g ≡ f) ⊎ (g ≡ f → ⊥) → (low_of b g ≤ low_of (left_of b f v) g) × (high_of (left_of b f v) g ≤ high_of b g)
        go (inl q) =
            rw (low_left n b p f v field g, q, high_left n b p f v field)
            (omega arith, omega (arith, ((divides_iff b f v).0 e).1))
        go (inr d) = rw (low_left n b p f v field g, high_left_other n b p f v field g d) (within_itself n b g l)

    right_side_within : Within n (right_of b f v) b
    right_side_within g l = go (same_or_not g f)
      where
        go : (g ≡ f) ⊎ (g ≡ f → ⊥) → (low_of b g ≤ low_of (right_of b f v) g) × (high_of (right_of b f v) g ≤ high_of b g)
        go (inl q) =
            rw (high_right n b p f v field g, q, low_right n b p f v field)
            (omega (arith, ((divides_iff b f v).0 e).0), omega arith)
        go (inr d) = rw (high_right n b p f v field g, low_right_other n b p f v field g d) (within_itself n b g l)

  -- the left part of a box of n pairs lies in the box
  pub left_within : Within n (left_part b f v) b
  left_within = go (sure (divides b f v))
    where
      go : (divides b f v ≡ true) ⊎ (divides b f v ≡ false) → Within n (left_part b f v) b
      go (inl e) = rw (left_divided b f v e) (left_side_within e)
      go (inr e) = rw (left_whole b f v e) (within_itself n b)

  -- the right part of a box of n pairs lies in the box
  pub right_within : Within n (right_part b f v) b
  right_within = go (sure (divides b f v))
    where
      go : (divides b f v ≡ true) ⊎ (divides b f v ≡ false) → Within n (right_part b f v) b
      go (inl e) = rw (right_divided b f v e) (right_side_within e)
      go (inr e) = rw (right_whole b f v e) (within_itself n b)

  -- the left part of a box of n pairs has n pairs
  pub pairs_left_part : Pairs n (left_part b f v)
  pairs_left_part = go (sure (divides b f v))
    where
      go : (divides b f v ≡ true) ⊎ (divides b f v ≡ false) → Pairs n (left_part b f v)
      go (inl e) = rw (left_divided b f v e) (pairs_left n b p f v (field e))
      go (inr e) = rw (left_whole b f v e) p

  -- the right part of a box of n pairs has n pairs
  pub pairs_right_part : Pairs n (right_part b f v)
  pairs_right_part = go (sure (divides b f v))
    where
      go : (divides b f v ≡ true) ⊎ (divides b f v ≡ false) → Pairs n (right_part b f v)
      go (inl e) = rw (right_divided b f v e) (pairs_right n b p f v (field e))
      go (inr e) = rw (right_whole b f v e) p
