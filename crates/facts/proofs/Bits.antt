-- Numbers by their bits: what a shift leaves of a power of two, and numbers none of whose bits differs.
use Prim.Native.Nat.{ℕ, ◌/◌, ◌^◌, ◌<◌, min}
use native.Mathlib.Nat.{div-eq_of_lt, div-lt_iff_lt-mul, min-eq_left, min-eq_right}
use native.Mathlib.Omega.{arith}
use mathlib.Core.Bool.{true}
use mathlib.Core.Path.{◌≡◌, sym, ap, ◌∙◌}
use lib.Dec.{ltb, eqb}
use lib.Bits.{bit_xor, xor_add_and, and_le_l, and_le_r, xor_self}
use lib.Pow.{pow-lt}
use borrow.Author.Tests.{ltb-true, lt-ltb, eqb-true, eq-eqb}
use Rattle.facts.proofs.Bools.{same_test}
use Rattle.facts.proofs.Cases.{WithinOrOver, within_or_over, at_most, over}

-- a power of two that is shifted to the right by most places is 0, where it has fewer, and more places change nothing
pub shifted_away : (w len most : ℕ) → w < most → 2 ^ w / 2 ^ min len most ≡ 2 ^ w / 2 ^ len
shifted_away w len most l = by (within_or_over len most)
  where
    by : WithinOrOver len most → 2 ^ w / 2 ^ min len most ≡ 2 ^ w / 2 ^ len
    by (at_most h) = rw (min-eq_left h)
    by (over h) =
        let over_w : w < len = omega arith in
        let capped : min len most ≡ most = min-eq_right (omega arith) in
        rw capped (div-eq_of_lt (pow-lt l) ∙ sym (div-eq_of_lt (pow-lt over_w)))

-- two numbers are equal exactly where none of their bits differs
pub no_bit_differs : (a b : ℕ) → eqb (bit_xor a b) 0 ≡ eqb a b
no_bit_differs a b = same_test (eqb (bit_xor a b) 0) (eqb a b) to of
  where
    to : eqb (bit_xor a b) 0 ≡ true → eqb a b ≡ true
    to e =
        let none = eqb-true (bit_xor a b) 0 e in
        eq-eqb a b (omega (arith, none, xor_add_and a b, and_le_l a b, and_le_r a b))

    of : eqb a b ≡ true → eqb (bit_xor a b) 0 ≡ true
    of e = eq-eqb (bit_xor a b) 0 (ap (bit_xor a) (sym (eqb-true a b e)) ∙ xor_self a)

-- a number is below another, which is not 0, exactly where their quotient is 0
pub below_as_quotient : (d s : ℕ) → 0 < s → ltb d s ≡ eqb (d / s) 0
below_as_quotient d s pos = same_test (ltb d s) (eqb (d / s) 0) to of
  where
    to : ltb d s ≡ true → eqb (d / s) 0 ≡ true
    to e = eq-eqb (d / s) 0 (div-eq_of_lt (ltb-true d s e))

    of : eqb (d / s) 0 ≡ true → ltb d s ≡ true
    of e =
        let none : d / s < 1 = omega (arith, eqb-true (d / s) 0 e) in
        lt-ltb d s (omega (arith, (div-lt_iff_lt-mul pos).0 none))
