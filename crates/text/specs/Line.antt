-- A line: a word, and then numbers, each behind its own separator byte. The word and the separators are the line's
-- format. Definitions only.
--   read_word w bs          the bytes of w at the front of bs
--   read_behind m bs        a number of 32 bits behind the separator m
--   fields_from vs ms bs    the numbers vs so far, then a number behind each separator of ms
--   read_fields w ms bs     the word w and a number behind each separator of ms at the front of bs
--   read_line w ms l        the numbers of the line l, without its newline, if it is a line of this format
--   read_counted w l        those of a line of numbers behind tabs, of which the second says how many follow it
--   print_line w ms vs      the line of this format with the numbers vs
--   ended l                 a line with its newline
--   EachUnder lim vs        every number is below lim
use Rattle.std.specs.Prelude.{ℕ, ◌^◌, ◌<◌, Bool, true, false, cond, List, [], ◌∷◌, ◌++◌, get_or, replicate, eqb}
use Rattle.std.proofs.Math.Option.{Option, none, some}
use Rattle.text.specs.Words.{newline, tab, two_tabs}
use Rattle.text.specs.Numbers.{Got, got, bad, digits_of, is_digit, read_number}

abbrev pub then_read : {A B : Type 0} → Got A → (A → List ℕ → Got B) → Got B
then_read (got a rest) next = next a rest
then_read bad next = bad

unfoldable pub read_word : List ℕ → List ℕ → Got (Unit {0})
read_word [] bs = got tt bs
read_word (w ∷ ws) [] = bad
read_word (w ∷ ws) (b ∷ bs) = cond (eqb b w) (read_word ws bs) bad

unfoldable pub read_behind : ℕ → List ℕ → Got ℕ
read_behind m [] = bad
read_behind m (b ∷ bs) = cond (eqb b m) (read_number (2 ^ 32) bs) bad

unfoldable pub fields_from : List ℕ → List ℕ → List ℕ → Got (List ℕ)
fields_from vs [] bs = got vs bs
fields_from vs (m ∷ ms) bs = then_read (read_behind m bs) (λ v rest. fields_from (vs ++ (v ∷ [])) ms rest)

abbrev pub read_fields : List ℕ → List ℕ → List ℕ → Got (List ℕ)
read_fields w ms bs = then_read (read_word w bs) (λ u rest. fields_from [] ms rest)

-- nothing may be left
abbrev pub wholly : {A : Type 0} → Got A → Option A
wholly (got a []) = some a
wholly (got a (b ∷ bs)) = none
wholly bad = none

unfoldable pub read_line : List ℕ → List ℕ → List ℕ → Option (List ℕ)
read_line w ms l = wholly (read_fields w ms l)

-- a number, then a count, then so many numbers
unfoldable pub read_counted : List ℕ → List ℕ → Option (List ℕ)
read_counted w l =
    wholly (then_read (read_word w l) (λ u rest. then_read (fields_from [] two_tabs rest)
    (λ vs more. fields_from vs (replicate (get_or vs 1 0) tab) more)))

unfoldable pub print_fields : List ℕ → List ℕ → List ℕ
print_fields [] vs = []
print_fields (m ∷ ms) [] = []
print_fields (m ∷ ms) (v ∷ vs) = m ∷ (digits_of v ++ print_fields ms vs)

unfoldable pub print_line : List ℕ → List ℕ → List ℕ → List ℕ
print_line w ms vs = w ++ print_fields ms vs

abbrev pub ended : List ℕ → List ℕ
ended l = l ++ (newline ∷ [])

abbrev pub EachUnder : ℕ → List ℕ → Type 0
EachUnder lim [] = Unit {0}
EachUnder lim (v ∷ vs) = (v < lim) × EachUnder lim vs

-- no separator is a digit
abbrev pub parting : List ℕ → Bool
parting [] = true
parting (m ∷ ms) = cond (is_digit m) false (parting ms)
