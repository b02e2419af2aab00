-- The text of a list of rules, and the list that a text holds, for the two kinds of file. Definitions only.
--   format_of k         the format of a kind: its word; then `rule`, the rule's number, two addresses with lengths, six
--                      range ends, and the action where the line has one
--   lines_in s         what reading the lines of the text s comes to: the words of its rules, or 9 or 10
--   without_twins a    the reading a, or 11 where two of its rules are twins
--   rules_in s         what reading the text s comes to: the words of its rules; or 9, 10, then 11
--   text_of k ws        the text of the list ws, in a file of kind k
use Rattle.std.specs.Prelude.{ℕ, List, length, take}
use Rattle.refusals.specs.Verdict.{Verdict}
use Rattle.refusals.specs.Verdict.{Fine, Refused}
use Rattle.text.specs.Words.{rule_word}
use Rattle.text.specs.Text.{Reading, good, refused}
use Rattle.rules.specs.Words.{rule_words, most_rules, rule_count}
use Rattle.rules.specs.Twins.{twins_verdict}
use Rattle.rule_file.specs.declared.kind.Kind.{Kind}
use Rattle.rule_file.specs.Records.{rule_of, rule_values, rule_fits}
use Rattle.rule_file.specs.Kinds.{list_word_of, marks_of, kind_of}
use Rattle.rule_file.specs.ListText.{Format, list_in, list_text}

-- as many numbers as the line has separators
abbrev pub values_of : Kind → ℕ → List ℕ → List ℕ
values_of k i r = take (length (marks_of k)) (rule_values i r)

abbrev pub format_of : Kind → Format
format_of k =
    record {
      list_word = list_word_of k;
      rule_word = rule_word;
      marks = marks_of k;
      width = rule_words;
      most = most_rules;
      values_of = values_of k;
      words_of = rule_of;
      test = rule_fits;
    }

abbrev pub lines_in : List ℕ → Reading (List ℕ)
lines_in s = list_in (format_of (kind_of s)) s

abbrev pub on_twins : List ℕ → Verdict → Reading (List ℕ)
on_twins ws Fine = good ws
on_twins ws (Refused why) = refused why

abbrev pub without_twins : Reading (List ℕ) → Reading (List ℕ)
without_twins (good ws) = on_twins ws (twins_verdict ws)
without_twins (refused why) = refused why

unfoldable pub rules_in : List ℕ → Reading (List ℕ)
rules_in s = without_twins (lines_in s)

abbrev pub text_of : Kind → List ℕ → List ℕ
text_of k ws = list_text (format_of k) (rule_count ws) ws
