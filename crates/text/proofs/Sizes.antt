-- How many bytes a line can take.
--   number_most   more bytes than a separator and a number of 32 bits take, by far: a place counts to far more
use Prim.Native.Nat.{ℕ, zero, suc, ◌+◌, ◌*◌, ◌/◌, ◌≤◌, ◌<◌, ◌^◌}
use native.Mathlib.Omega.{arith}
use native.Mathlib.Nat.{pow-suc}
use mathlib.Core.Bool.{Bool, true, false}
use mathlib.Core.Path.{◌≡◌, refl}
use mathlib.Core.List.{List, [], ◌∷◌}
use lib.Dec.{ltb}
use lib.ListN.{length, length-append}
use borrow.Author.Tests.{ltb-false}
use Rattle.text.specs.Numbers.{digits_by, digits_of}
use Rattle.text.specs.Line.{print_fields, print_line, EachUnder}
use Rattle.text.proofs.Numbers.{digits_length}

few_by :
    (f k n : ℕ) (small : Bool) → ltb n 10 ≡ small → n < 10 ^ suc k → length (digits_by f small n) ≤ suc k
unfolding digits_by
few_by zero k n small e h = omega arith
few_by (suc f) k n true e h = omega arith
few_by (suc f) zero n false e h = absurd (omega (arith, ltb-false n 10 e))
few_by (suc f) (suc k) n false e h =
    let ten = pow-suc 10 (suc k) in
    simp length-append (omega (arith, few_by f k (n / 10) (ltb (n / 10) 10) refl (omega (arith, ten))))

-- a number below ten times ten .. has no more digits than there are tens
pub digits_few : (k n : ℕ) → n < 10 ^ suc k → length (digits_of n) ≤ suc k
unfolding digits_of
digits_few k n h = few_by n k n (ltb n 10) refl h

-- numbers of few digits take no more bytes than their separators and so many digits
pub fields_few :
    (k : ℕ) (ms vs : List ℕ) → EachUnder (10 ^ suc k) vs → length (print_fields ms vs) ≤ length vs * (k + 2)
unfolding print_fields
fields_few k [] vs b = omega arith
fields_few k (m ∷ ms) [] b = omega arith
fields_few k (m ∷ ms) (v ∷ vs) b =
    let e : length (v ∷ vs) * (k + 2) ≡ length vs * (k + 2) + (k + 2) = omega arith in
    simp length-append (omega (arith, digits_few k v b.0, fields_few k ms vs b.1))

abbrev pub number_most : ℕ
number_most = 2 ^ 33

-- the numbers of a line take no more than so many bytes each
fields_size : (ms vs : List ℕ) → EachUnder (2 ^ 32) vs → length (print_fields ms vs) ≤ length vs * number_most
unfolding print_fields
fields_size [] vs b = omega arith
fields_size (m ∷ ms) [] b = omega arith
fields_size (m ∷ ms) (v ∷ vs) b =
    simp length-append (omega (arith, b.0, digits_length v, fields_size ms vs b.1))

-- a line takes no more than its word and so many bytes for each number
pub line_size :
    (w ms vs : List ℕ) → EachUnder (2 ^ 32) vs → length (print_line w ms vs) ≤ length w + length vs * number_most
unfolding print_line
line_size w ms vs b = simp length-append (omega (arith, fields_size ms vs b))
