-- Of the numbers that a function gives below n, one is largest.
use Prim.Native.Nat.{ℕ, zero, suc, ◌≤◌, ◌<◌}
use native.Mathlib.Nat.{not-suc-le-zero}
use native.Mathlib.Omega.{arith}
use Rattle.facts.proofs.Cases.{Order, below, same, above, order, WithinOrOver, at_most, over, within_or_over}

-- the place below n of a number that no other below n is over
pub record LargestAt (n : ℕ) (g : ℕ → ℕ) : Type 0 where
  pub at : ℕ
  pub there : at < n
  pub most : (j : ℕ) → j < n → g j ≤ g at

-- there is one, where n is not 0
pub largest_at : (n : ℕ) (g : ℕ → ℕ) → 0 < n → LargestAt n g
largest_at zero g h = absurd (not-suc-le-zero h)
largest_at (suc n) g h = go (within_or_over 1 n) (λ l. largest_at n g l)
  where
    last : ((j : ℕ) → j < n → g j ≤ g n) → LargestAt (suc n) g
    last m = record { at = n; there = omega arith; most = λ j l. each j l (order j n) }
      where
        each : (j : ℕ) → j < suc n → Order j n → g j ≤ g n
        each j l (below u) = m j u
        each j l (same q) = rw q (omega arith)
        each j l (above u) = absurd (omega arith)

    earlier : (w : LargestAt n g) → g n ≤ g w.at → LargestAt (suc n) g
    earlier w u =
        record { at = w.at; there = omega (arith, w.there); most = λ j l. each j l (order j n) }
      where
        each : (j : ℕ) → j < suc n → Order j n → g j ≤ g w.at
        each j l (below v) = w.most j v
        each j l (same q) = rw q u
        each j l (above v) = absurd (omega arith)

    either : (w : LargestAt n g) → WithinOrOver (g n) (g w.at) → LargestAt (suc n) g
    either w (at_most u) = earlier w u
    either w (over u) = last (λ j l. omega (arith, w.most j l))

    go : WithinOrOver 1 n → (0 < n → LargestAt n g) → LargestAt (suc n) g
    go (at_most l) r = let w = r (omega arith) in either w (within_or_over (g n) (g w.at))
    go (over l) r = last (λ j u. absurd (omega arith))
