-- The text of a list of rules, and the list that a text holds, over a format. Definitions only.
--   Format             the fixed words of a list file, and how the words of one rule stand in a line:
--     list_word, rule_word, marks    the word of the first line, that of a rule's line, and the separators there
--     width, most                  the words of a rule, and the most rules
--     values_of i r                 the numbers of the line of rule i, whose words are r
--     words_of v                    the words of the rule whose line has the numbers v
--     test i v                     the numbers v are those of a line of rule i
--   part_at w ws i      the words of rule i, at w words a rule
--   State              where a reader stands: at the first line; within n rules, i of them read, their words ws; past
--                      the end line, with all the words
--   step st l          what the line l makes of the state st, or that it is wrong
--   finish st          the words, once the end line is passed
--   list_from st s c    what reading the text s from the cursor c on comes to, from the state st on
--   list_in s          what reading the whole text comes to: the words of its rules, or 9 or 10
--   first_line n, rule_line i r  the first line; the line of rule i with the words r
--   line_of ws i, rule_lines ws i   the line of rule i of the list ws; those of the rules below i
--   list_text n ws     the text of a list of n rules
use Rattle.std.specs.Prelude.{ℕ, ◌+◌, ◌*◌, Bool, true, cond, List, [], ◌∷◌, ◌++◌, get_or, take, drop, ltb, leb}
use Rattle.std.proofs.Math.Option.{Option, none, some}
use Rattle.text.specs.declared.cursor.Cursor.{Cursor}
use Rattle.text.specs.Words.{end_word, one_tab}
use Rattle.text.specs.Line.{read_line, print_line}
use Rattle.text.specs.Text.{split, unlines, Reading, read_all}
use Rattle.text.specs.Onward.{read_on}
use Rattle.text.specs.EndLines.{on_end, record_lines, file_lines}

pub record Format : Type 0 where
  pub list_word : List ℕ
  pub rule_word : List ℕ
  pub marks : List ℕ
  pub width : ℕ
  pub most : ℕ
  pub values_of : ℕ → List ℕ → List ℕ
  pub words_of : List ℕ → List ℕ
  pub test : ℕ → List ℕ → Bool

abbrev pub part_at : ℕ → List ℕ → ℕ → List ℕ
part_at w ws i = take w (drop (i * w) ws)

pub data State : Type 0 where
  start : State
  within : ℕ → ℕ → List ℕ → State
  over : List ℕ → State

abbrev pub finish : State → Option (List ℕ)
finish start = none
finish (within n i ws) = none
finish (over ws) = some ws

module _ (F : Format) where
  abbrev pub on_first : Option (List ℕ) → Option State
  on_first none = none
  on_first (some v) = cond (leb (get_or v 0 0) F.most) (some (within (get_or v 0 0) 0 [])) none

  abbrev pub on_rule : ℕ → ℕ → List ℕ → Option (List ℕ) → Option State
  on_rule n i ws none = none
  on_rule n i ws (some v) = cond (F.test i v) (some (within n (i + 1) (ws ++ F.words_of v))) none

  abbrev pub step : State → List ℕ → Option State
  step start l = on_first (read_line F.list_word one_tab l)
  step (within n i ws) l =
      cond (ltb i n) (on_rule n i ws (read_line F.rule_word F.marks l))
      (on_end true (n + 1) (over ws) (read_line end_word one_tab l))
  step (over ws) l = none

  abbrev pub list_from : State → List ℕ → Cursor → Reading (List ℕ)
  list_from st s c = read_on step finish st s c

  unfoldable pub list_in : List ℕ → Reading (List ℕ)
  list_in s = read_all step finish start 0 (split s)

  abbrev pub first_line : ℕ → List ℕ
  first_line n = print_line F.list_word one_tab (n ∷ [])

  abbrev pub rule_line : ℕ → List ℕ → List ℕ
  rule_line i r = print_line F.rule_word F.marks (F.values_of i r)

  abbrev pub line_of : List ℕ → ℕ → List ℕ
  line_of ws i = rule_line i (part_at F.width ws i)

  abbrev pub rule_lines : List ℕ → ℕ → List (List ℕ)
  rule_lines ws i = record_lines (line_of ws) i

  unfoldable pub list_text : ℕ → List ℕ → List ℕ
  list_text n ws = unlines (file_lines (first_line n) (rule_lines ws n) n)
