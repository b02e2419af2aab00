-- The line that says why a rule misses a header. Definitions only.
--   field_names         the names of the fields, from the lowest
--   name_of f            the name of field f
--   misses_line rs n f  `misses`, the number of field f, its name, and what the line of rule n says of it
--   miss_line rs n f    the same; or `match`, where f is no field, as where every field agrees
--   line_or v l         the line l; or the refusal of the verdict v
--   miss_answer rs n h  the line that answers header h: which field of rule n misses it, or that it matches; or the
--                       refusal
use Rattle.std.specs.Prelude.{ℕ, cond, List, [], ◌∷◌, ◌++◌, get_or, leb}
use Rattle.refusals.specs.Verdict.{Verdict}
use Rattle.refusals.specs.Verdict.{Fine, Refused}
use Rattle.fields.specs.Words.{field_count}
use Rattle.rules.specs.Matching.{first_miss}
use Rattle.rules.specs.RuleMisses.{miss_verdict}
use Rattle.text.specs.Words.{newline, tab, one_tab, match_word, misses_word}
use Rattle.text.specs.Words.{source_name, destination_name, source_port_name, destination_port_name, protocol_name}
use Rattle.text.specs.Line.{print_line, ended}
use Rattle.rule_file.specs.Pieces.{words_for}
use Rattle.console.specs.Lines.{refused_line}

abbrev pub field_names : List (List ℕ)
field_names = source_name ∷ destination_name ∷ source_port_name ∷ destination_port_name ∷ protocol_name ∷ []

unfoldable pub name_of : ℕ → List ℕ
name_of f = get_or field_names f protocol_name

unfoldable pub misses_line : List ℕ → ℕ → ℕ → List ℕ
misses_line rs n f =
    print_line misses_word one_tab (f ∷ []) ++ ((tab ∷ name_of f) ++ (words_for rs n f ++ (newline ∷ [])))

unfoldable pub miss_line : List ℕ → ℕ → ℕ → List ℕ
miss_line rs n f = cond (leb field_count f) (ended match_word) (misses_line rs n f)

unfoldable pub line_or : Verdict → List ℕ → List ℕ
line_or Fine l = l
line_or (Refused why) l = refused_line why

unfoldable pub miss_answer : List ℕ → ℕ → List ℕ → List ℕ
miss_answer rs n h = line_or (miss_verdict rs h n) (miss_line rs n (first_miss rs h n))
