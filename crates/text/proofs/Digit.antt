-- The byte of a digit: 48 is that of 0, and 57 that of 9.
use Prim.Native.Nat.{ℕ, ◌≤◌}
use mathlib.Core.Bool.{true}
use mathlib.Core.Path.{◌≡◌}
use lib.Dec.{leb}
use borrow.Author.Tests.{le-leb, leb-true}
use Rattle.facts.proofs.Bools.{both}
use Rattle.text.specs.Numbers.{is_digit}

-- the bytes from 48 to 57 are digits
pub digit_of : (b : ℕ) → 48 ≤ b → b ≤ 57 → is_digit b ≡ true
unfolding is_digit
digit_of b p q = rw (le-leb 48 b p, le-leb b 57 q)

-- a digit is a byte from 48 to 57
pub digit_range : (b : ℕ) → is_digit b ≡ true → (48 ≤ b) × (b ≤ 57)
unfolding is_digit
digit_range b e = let h = both (leb 48 b) (leb b 57) e in (leb-true 48 b h.0, leb-true b 57 h.1)
