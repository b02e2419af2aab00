-- Two numbers, taken by cases: below, same or above; at most or over; same or not.
use Prim.Native.Nat.{ℕ, ◌≤◌, ◌<◌}
use native.Mathlib.Omega.{arith}
use mathlib.Core.Bool.{true, false}
use mathlib.Core.Path.{◌≡◌}
use mathlib.Core.Logic.{◌⊎◌, inl, inr}
use lib.Dec.{leb, ltb, eqb}
use borrow.Author.Tests.{ltb-true, ltb-false, leb-true, leb-false, eqb-true, eqb-false}
use Rattle.facts.proofs.Bools.{sure}

pub data Order (a b : ℕ) : Type 0 where
  below : a < b → Order a b
  same : a ≡ b → Order a b
  above : b < a → Order a b

-- of two numbers the first is below the second, the same, or above it
pub order : (a b : ℕ) → Order a b
order a b = go (sure (ltb a b)) (sure (ltb b a))
  where
    go : (ltb a b ≡ true) ⊎ (ltb a b ≡ false) → (ltb b a ≡ true) ⊎ (ltb b a ≡ false) → Order a b
    go (inl p) q = below (ltb-true a b p)
    go (inr p) (inl q) = above (ltb-true b a q)
    go (inr p) (inr q) = same (omega (arith, ltb-false a b p, ltb-false b a q))

pub data WithinOrOver (a b : ℕ) : Type 0 where
  at_most : a ≤ b → WithinOrOver a b
  over : b < a → WithinOrOver a b

-- of two numbers the first is at most the second, or over it
pub within_or_over : (a b : ℕ) → WithinOrOver a b
within_or_over a b = go (sure (leb a b))
  where
    go : (leb a b ≡ true) ⊎ (leb a b ≡ false) → WithinOrOver a b
    go (inl p) = at_most (leb-true a b p)
    go (inr p) = over (leb-false a b p)

-- two numbers are the same, or they are not
pub same_or_not : (a b : ℕ) → (a ≡ b) ⊎ (a ≡ b → ⊥)
same_or_not a b = go (sure (eqb a b))
  where
    go : (eqb a b ≡ true) ⊎ (eqb a b ≡ false) → (a ≡ b) ⊎ (a ≡ b → ⊥)
    go (inl p) = inl (eqb-true a b p)
    go (inr p) = inr (eqb-false a b p)
