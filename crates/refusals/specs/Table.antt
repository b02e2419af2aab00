-- The scope's table of refusals: each variant's number, place and extra. Definitions only.
--   number_of     1 to 12
--   place_of      a rule, field, node or line, the room needed, the whole lines read; 0 where the table names none
--   extra_of     of a short output which one it is, 1 for the pool; of a leaf the lowest rule that it lacks; of a rule
--                with a twin the earlier of the two; else 0
use Rattle.std.specs.Prelude.{ℕ}
use Rattle.refusals.specs.declared.Refusal.{Refusal}
use Rattle.refusals.specs.declared.Refusal.TheVariants.{RuleWordsWrong, RuleNotGood, HeaderWrong, OutputShort}
use Rattle.refusals.specs.declared.Refusal.TheVariants.{TreeWordsWrong, NodeWrong, LeafWrong, LeafLacksRule}
use Rattle.refusals.specs.declared.Refusal.TheVariants.{LineWrong, TextStops, RuleHasTwin, FileNotRead}

abbrev pub number_of : Refusal → ℕ
number_of RuleWordsWrong = 1
number_of (RuleNotGood rule) = 2
number_of (HeaderWrong field) = 3
number_of (OutputShort needed output) = 4
number_of TreeWordsWrong = 5
number_of (NodeWrong node) = 6
number_of (LeafWrong node) = 7
number_of (LeafLacksRule node rule) = 8
number_of (LineWrong line) = 9
number_of (TextStops lines) = 10
number_of (RuleHasTwin rule earlier) = 11
number_of FileNotRead = 12

abbrev pub place_of : Refusal → ℕ
place_of RuleWordsWrong = 0
place_of (RuleNotGood rule) = rule
place_of (HeaderWrong field) = field
place_of (OutputShort needed output) = needed
place_of TreeWordsWrong = 0
place_of (NodeWrong node) = node
place_of (LeafWrong node) = node
place_of (LeafLacksRule node rule) = node
place_of (LineWrong line) = line
place_of (TextStops lines) = lines
place_of (RuleHasTwin rule earlier) = rule
place_of FileNotRead = 0

abbrev pub extra_of : Refusal → ℕ
extra_of RuleWordsWrong = 0
extra_of (RuleNotGood rule) = 0
extra_of (HeaderWrong field) = 0
extra_of (OutputShort needed output) = output
extra_of TreeWordsWrong = 0
extra_of (NodeWrong node) = 0
extra_of (LeafWrong node) = 0
extra_of (LeafLacksRule node rule) = rule
extra_of (LineWrong line) = 0
extra_of (TextStops lines) = 0
extra_of (RuleHasTwin rule earlier) = earlier
extra_of FileNotRead = 0
