-- What the cursor's methods answer: a value and the next cursor, or the refusal of the line it stands in. Definitions
-- only. A cursor past the text's end stands at its end.
--   wrong_at k         9: the line after k whole lines
--   cursor_at p k      the cursor at place p, with k whole lines before it
--   padded vs          the numbers vs in the eighteen words of an answer, 0 behind them
--   digits_at, number_at, behind_at, word_at, marks_at, fields_at  as many digits as follow; a number; one behind a
--                      separator; a word; numbers behind separators; a word and such numbers; each at the front of
--                      what is left
--   end_at              nothing may be left; the next line begins behind the newline that follows
--   whole_at            all that is left is a line of the format, and the next begins behind the newline that follows
--   line_end_at        the place of the next newline; 10 where there is none
--   line_at             the next line, of the format
use Rattle.std.specs.Prelude.{ℕ, ◌+◌, ◌^◌, cond, List, [], length, drop, replicate, ltb, Err, Ok, Result}
use Rattle.std.proofs.Math.Option.{Option, none, some}
use Rattle.std.proofs.lemmas.List.Edits.{sets}
use Rattle.refusals.specs.declared.Refusal.{Refusal}
use Rattle.refusals.specs.declared.Refusal.TheVariants.{LineWrong, TextStops}
use Rattle.text.specs.declared.cursor.Cursor.{Cursor}
use Rattle.text.specs.declared.cursor.Fields.{Fields}
use Rattle.text.specs.Words.{most_fields}
use Rattle.text.specs.Places.{following, place_in}
use Rattle.text.specs.Numbers.{Got, got, bad, more, read_number}
use Rattle.text.specs.Line.{read_word, read_behind, fields_from, read_fields, read_line}
use Rattle.text.specs.Text as text

abbrev pub wrong_at : ℕ → Refusal
wrong_at k = LineWrong (following k)

abbrev pub cursor_at : ℕ → ℕ → Cursor
cursor_at p k = record { at = p; lines = k }

abbrev pub padded : List ℕ → List ℕ
padded vs = sets (replicate most_fields 0) 0 vs

abbrev pub some_fields : Cursor → List ℕ → Result Fields Refusal
some_fields c vs = Ok (record { values = padded vs; next = c })

abbrev pub on_number : List ℕ → ℕ → Got ℕ → Result (ℕ × Cursor) Refusal
on_number s k (got v rest) = Ok (v, cursor_at (place_in s rest) k)
on_number s k bad = Err (wrong_at k)

abbrev pub on_word : List ℕ → ℕ → Got (Unit {0}) → Result Cursor Refusal
on_word s k (got u rest) = Ok (cursor_at (place_in s rest) k)
on_word s k bad = Err (wrong_at k)

abbrev pub on_fields : List ℕ → ℕ → Got (List ℕ) → Result Fields Refusal
on_fields s k (got vs rest) = some_fields (cursor_at (place_in s rest) k) vs
on_fields s k bad = Err (wrong_at k)

abbrev pub on_line : ℕ → ℕ → Option (List ℕ) → Result Fields Refusal
on_line p k (some vs) = some_fields (cursor_at p (following k)) vs
on_line p k none = Err (wrong_at k)

unfoldable pub digits_at : List ℕ → Cursor → Result (ℕ × Cursor) Refusal
digits_at s c = on_number s c.lines (more (2 ^ 32) 0 (drop c.at s))

unfoldable pub number_at : List ℕ → Cursor → Result (ℕ × Cursor) Refusal
number_at s c = on_number s c.lines (read_number (2 ^ 32) (drop c.at s))

unfoldable pub behind_at : List ℕ → Cursor → ℕ → Result (ℕ × Cursor) Refusal
behind_at s c m = on_number s c.lines (read_behind m (drop c.at s))

unfoldable pub word_at : List ℕ → Cursor → List ℕ → Result Cursor Refusal
word_at s c w = on_word s c.lines (read_word w (drop c.at s))

unfoldable pub marks_at : List ℕ → Cursor → List ℕ → Result Fields Refusal
marks_at s c ms = on_fields s c.lines (fields_from [] ms (drop c.at s))

unfoldable pub fields_at : List ℕ → Cursor → List ℕ → List ℕ → Result Fields Refusal
fields_at s c w ms = on_fields s c.lines (read_fields w ms (drop c.at s))

unfoldable pub end_at : List ℕ → Cursor → Result Cursor Refusal
end_at s c =
    cond (ltb c.at (length s)) (Err (wrong_at c.lines))
    (Ok (cursor_at (length s + 1) (following c.lines)))

unfoldable pub whole_at : List ℕ → Cursor → List ℕ → List ℕ → Result Fields Refusal
whole_at s c w ms = on_line (length s + 1) c.lines (read_line w ms (drop c.at s))

abbrev pub on_end : ℕ → ℕ → text.Next → Result ℕ Refusal
on_end p k (text.line l rest) = Ok (p + length l)
on_end p k text.no_line = Err (TextStops k)

unfoldable pub line_end_at : List ℕ → Cursor → Result ℕ Refusal
line_end_at s c = on_end c.at c.lines (text.next_from [] (drop c.at s))

abbrev pub on_next : List ℕ → ℕ → List ℕ → List ℕ → text.Next → Result Fields Refusal
on_next s k w ms (text.line l rest) = on_line (place_in s rest) k (read_line w ms l)
on_next s k w ms text.no_line = Err (TextStops k)

unfoldable pub line_at : List ℕ → Cursor → List ℕ → List ℕ → Result Fields Refusal
line_at s c w ms = on_next s c.lines w ms (text.next_from [] (drop c.at s))
