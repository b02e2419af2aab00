-- Decimal numbers without leading zeros: how one is written, and how one is read from the front of some bytes.
-- Definitions only.
--   Got                 what reading from the front finds: a value and the bytes that are left; or nothing of the kind
--   digits_of n         n in decimal
--   is_digit b          b is one of the bytes 0 to 9
--   more lim v bs       the digits at the front of bs behind those of v; bad where that makes lim or more
--   read_number lim bs  a number below lim at the front of bs: 0 alone, or a digit 1 to 9 and as many digits as follow
use Rattle.std.specs.Prelude.{ℕ, zero, suc, ◌+◌, ◌-◌, ◌*◌, ◌/◌, ◌%◌, Bool, true, false, cond, ◌&&◌, List, [], ◌∷◌, ◌++◌, ltb, leb, eqb}

pub data Got (A : Type 0) : Type 0 where
  got : A → List ℕ → Got A
  bad : Got A

-- the flag says that n is below ten; there are at most f digits more than one
unfoldable pub digits_by : ℕ → Bool → ℕ → List ℕ
digits_by zero small n = (48 + n) ∷ []
digits_by (suc f) true n = (48 + n) ∷ []
digits_by (suc f) false n = digits_by f (ltb (n / 10) 10) (n / 10) ++ ((48 + n % 10) ∷ [])

unfoldable pub digits_of : ℕ → List ℕ
digits_of n = digits_by n (ltb n 10) n

unfoldable pub is_digit : ℕ → Bool
is_digit b = leb 48 b && leb b 57

unfoldable pub more : ℕ → ℕ → List ℕ → Got ℕ
more lim v [] = got v []
more lim v (b ∷ bs) =
    cond (is_digit b)
    (cond (ltb (v * 10 + (b - 48)) lim) (more lim (v * 10 + (b - 48)) bs) bad)
    (got v (b ∷ bs))

unfoldable pub read_number : ℕ → List ℕ → Got ℕ
read_number lim [] = bad
read_number lim (b ∷ bs) = cond (is_digit b) (cond (eqb b 48) (got 0 bs) (more lim 0 (b ∷ bs))) bad
