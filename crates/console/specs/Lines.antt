-- The lines that the program writes. Definitions only.
--   refused_line why   `refused`, then number, place and extra
--   hit_line ms        `hit`, then how many numbers there are, then the numbers ms
--   most_refused       the most bytes of the line of a refusal, whose numbers are of 64 bits
--   most_reply         the most bytes of a reply by a good list: `hit`, a count, 512 numbers of at most three digits
use Rattle.std.specs.Prelude.{ℕ, ◌+◌, List, [], ◌∷◌, ◌++◌, length, replicate}
use Rattle.refusals.specs.declared.Refusal.{Refusal}
use Rattle.refusals.specs.Table.{number_of, place_of, extra_of}
use Rattle.text.specs.Words.{newline, tab, three_tabs, hit_word, refused_word}
use Rattle.text.specs.Line.{print_line}

unfoldable pub refused_line : Refusal → List ℕ
refused_line why = print_line refused_word three_tabs (number_of why ∷ place_of why ∷ extra_of why ∷ []) ++ (newline ∷ [])

unfoldable pub hit_line : List ℕ → List ℕ
hit_line ms = print_line hit_word (replicate (length ms + 1) tab) (length ms ∷ ms) ++ (newline ∷ [])

abbrev pub most_refused : ℕ
most_refused = 71

abbrev pub most_reply : ℕ
most_reply = 2056
