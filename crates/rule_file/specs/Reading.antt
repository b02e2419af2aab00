-- Reading a rule file. Definitions only.
--   HoldsRules n k       the text holds n rules, and is of kind k
--   paper                an answer of the reader, on paper: the number of rules, and the kind of the file
--   words_in a            the words of a reading that came to its end; none where it was refused
--   read_verdict a room  the reading's own refusal, 9, 10 or 11, then 4 where the room is less than its words
--   RulesRead            the promise: the words of the text stand in front, or it is refused
use Rattle.rule_file.specs.declared.read.Rules.{Rules}
use Rattle.refusals.specs.declared.Refusal.{Refusal}
use Rattle.std.specs.Prelude.{ℕ, List, [], ◌∷◌, length, Ok, Err, Result}
use Rattle.refusals.specs.Verdict.{Verdict}
use Rattle.refusals.specs.Verdict as verdict
use Rattle.refusals.specs.Paper.{Paper, success, on_paper}
use Rattle.refusals.specs.Order.{room_verdict}
use Rattle.refusals.specs.Promises.{Writes}
use Rattle.text.specs.Text.{Reading, good, refused}
use Rattle.rules.specs.Words.{rule_count}
use Rattle.rule_file.specs.declared.kind.Kind.{Kind}
use Rattle.rule_file.specs.Kinds.{kind_number, kind_of}
use Rattle.rule_file.specs.RuleText.{rules_in}

abbrev pub HoldsRules : ℕ → Kind → Result Rules Refusal
HoldsRules n k = Ok (record { rules = n; kind = k })

abbrev pub paper : Result Rules Refusal → Paper
paper (Err why) = on_paper why
paper (Ok read) = success (read.rules ∷ kind_number read.kind ∷ [])

abbrev pub words_in : Reading (List ℕ) → List ℕ
words_in (good ws) = ws
words_in (refused why) = []

abbrev pub read_verdict : Reading (List ℕ) → ℕ → Verdict
read_verdict (good ws) room = room_verdict (length ws) room
read_verdict (refused why) room = verdict.Refused why

abbrev pub RulesRead : List ℕ → List ℕ → Result Rules Refusal → List ℕ → Type 0
RulesRead s before r after =
    Writes paper (read_verdict (rules_in s) (length before))
    (rule_count (words_in (rules_in s)) ∷ kind_number (kind_of s) ∷ []) (words_in (rules_in s)) before r after
