-- The lines of a file: a first line, one for each record, and the end line, which is `end` and the number of lines
-- before it. Nothing stands after it. Definitions only.
--   record_lines line i          the lines of the records below i, `line j` being that of record j
--   file_lines first ls n        the lines of a file: the first, the n lines ls, and the end line
--   end_line n                   the end line of a text with n lines before it
--   on_end complete n past o     what a line that was read makes of a state that waits for the end line: the state past
--                                it, if what stands before the line is complete and its number is n
--   end_line_at s c complete n   whether the text s ends as it should from the cursor c on: 9 or 10, or it is over
use Rattle.refusals.specs.declared.Refusal.{Refusal}
use Rattle.refusals.specs.Verdict.{Fine, Refused, Verdict}
use Rattle.std.specs.Prelude.{ℕ, zero, suc, ◌+◌, Bool, cond, ◌&&◌, List, [], ◌∷◌, ◌++◌, length, get_or, ltb, eqb}
use Rattle.std.specs.Prelude.{Err, Ok, Result}
use Rattle.std.proofs.Math.Option.{Option, none, some}
use Rattle.text.specs.declared.cursor.Cursor.{Cursor}
use Rattle.text.specs.declared.cursor.Fields.{Fields}
use Rattle.text.specs.Words.{end_word, one_tab}
use Rattle.text.specs.Line.{print_line}
use Rattle.text.specs.Cursors.{wrong_at, line_at}

abbrev pub end_line : ℕ → List ℕ
end_line n = print_line end_word one_tab (n ∷ [])

unfoldable pub record_lines : (ℕ → List ℕ) → ℕ → List (List ℕ)
record_lines line zero = []
record_lines line (suc i) = record_lines line i ++ (line i ∷ [])

abbrev pub file_lines : List ℕ → List (List ℕ) → ℕ → List (List ℕ)
file_lines first ls n = first ∷ (ls ++ (end_line (n + 1) ∷ []))

abbrev pub on_end : {S : Type 0} → Bool → ℕ → S → Option (List ℕ) → Option S
on_end complete n past none = none
on_end complete n past (some v) = cond (complete && eqb (get_or v 0 0) n) (some past) none

abbrev pub on_said : List ℕ → ℕ → Bool → Cursor → Verdict
on_said s k right d =
    cond right (cond (ltb d.at (length s)) (Refused (wrong_at d.lines)) Fine) (Refused (wrong_at k))

abbrev pub on_fields : List ℕ → ℕ → Bool → ℕ → Result Fields Refusal → Verdict
on_fields s k complete n (Err why) = Refused why
on_fields s k complete n (Ok f) = on_said s k (complete && eqb (get_or f.values 0 0) n) f.next

unfoldable pub end_line_at : List ℕ → Cursor → Bool → ℕ → Verdict
end_line_at s c complete n = on_fields s c.lines complete n (line_at s c end_word one_tab)
