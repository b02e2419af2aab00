-- Bytes without a newline among them. Every line that is written is such.
--   Plain l        no byte of l is a newline
--   AllPlain ls    no byte of any line of ls is
--   is_plain l      the same of l as a test, for bytes that are written out
use Prim.Native.Nat.{ℕ, zero, suc, ◌+◌, ◌/◌, ◌%◌}
use native.Mathlib.Omega.{arith}
use mathlib.Core.Bool.{Bool, true, false, cond}
use mathlib.Core.List.{List, [], ◌∷◌, ◌++◌}
use mathlib.Core.Path.{◌≡◌, refl}
use lib.Dec.{ltb, eqb}
use borrow.Author.Tests.{eqb-false}
use Rattle.facts.proofs.Bools.{clash}
use Rattle.text.specs.Words.{newline}
use Rattle.text.specs.Numbers.{digits_by, digits_of}
use Rattle.text.specs.Line.{print_fields, print_line}

abbrev pub Plain : List ℕ → Type 0
Plain [] = Unit {0}
Plain (b ∷ bs) = (b ≡ newline → ⊥) × Plain bs

abbrev pub AllPlain : List (List ℕ) → Type 0
AllPlain [] = Unit {0}
AllPlain (l ∷ ls) = Plain l × AllPlain ls

abbrev pub is_plain : List ℕ → Bool
is_plain [] = true
is_plain (b ∷ bs) = cond (eqb b newline) false (is_plain bs)

plain_step :
    (b : ℕ) (bs : List ℕ) (t : Bool) → eqb b newline ≡ t → cond t false (is_plain bs) ≡ true →
    (is_plain bs ≡ true → Plain bs) → Plain (b ∷ bs)
plain_step b bs true e h ih = clash h refl
plain_step b bs false e h ih = (eqb-false b newline e, ih h)

-- bytes that pass the test have no newline among them
pub plain_of : (l : List ℕ) → is_plain l ≡ true → Plain l
plain_of [] h = tt
plain_of (b ∷ bs) h = plain_step b bs (eqb b newline) refl h (plain_of bs)

-- two lists of bytes without a newline have none as one
pub plain_append : (a b : List ℕ) → Plain a → Plain b → Plain (a ++ b)
plain_append [] b p q = q
plain_append (x ∷ a) b p q = (p.0, plain_append a b p.1 q)

-- lines without a newline and one more such line are such lines
pub all_plain_more : (ls : List (List ℕ)) (l : List ℕ) → AllPlain ls → Plain l → AllPlain (ls ++ (l ∷ []))
all_plain_more [] l p q = (q, tt)
all_plain_more (x ∷ ls) l p q = (p.0, all_plain_more ls l p.1 q)

digits_plain : (f : ℕ) (small : Bool) (n : ℕ) → Plain (digits_by f small n)
unfolding digits_by
digits_plain zero small n = ((λ e. omega arith), tt)
digits_plain (suc f) true n = ((λ e. omega arith), tt)
digits_plain (suc f) false n =
    plain_append (digits_by f (ltb (n / 10) 10) (n / 10)) ((48 + n % 10) ∷ [])
    (digits_plain f (ltb (n / 10) 10) (n / 10)) ((λ e. omega arith), tt)

fields_plain : (ms vs : List ℕ) → Plain ms → Plain (print_fields ms vs)
unfolding print_fields digits_of
fields_plain [] vs p = tt
fields_plain (m ∷ ms) [] p = tt
fields_plain (m ∷ ms) (v ∷ vs) p =
    (p.0, plain_append (digits_of v) (print_fields ms vs) (digits_plain v (ltb v 10) v) (fields_plain ms vs p.1))

-- a written line has no newline in it, if its word and its separators have none
pub line_plain : (w ms vs : List ℕ) → Plain w → Plain ms → Plain (print_line w ms vs)
unfolding print_line
line_plain w ms vs p q = plain_append w (print_fields ms vs) p (fields_plain ms vs q)
