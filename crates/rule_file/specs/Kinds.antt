-- The two kinds of a list file: `rules`, whose lines have no action, and `acl`, whose lines have it last. Definitions
-- only.
--   kind_number k    a kind as a number
--   list_word_of k   the word of the first line
--   marks_of k       the separators of a rule's line
--   most_action k    the largest action of a rule in such a file: a line without an action is of action 0
--   kind_of s         the kind of the text s: `acl` where it begins with the first byte of that word, else `rules`. Its
--                    first line is then held against the whole word
use Rattle.std.specs.Prelude.{ℕ, cond, List, get_or, eqb}
use Rattle.text.specs.Words.{rules_word, acl_word, rule_marks, acl_marks}
use Rattle.rules.specs.Words.{largest_action}
use Rattle.rule_file.specs.declared.kind.Kind.{Kind}
use Rattle.rule_file.specs.declared.kind.Kind.TheVariants.{Rules, Acl}

abbrev pub kind_number : Kind → ℕ
kind_number Rules = 0
kind_number Acl = 1

abbrev pub list_word_of : Kind → List ℕ
list_word_of Rules = rules_word
list_word_of Acl = acl_word

abbrev pub marks_of : Kind → List ℕ
marks_of Rules = rule_marks
marks_of Acl = acl_marks

abbrev pub most_action : Kind → ℕ
most_action Rules = 0
most_action Acl = largest_action

unfoldable pub kind_of : List ℕ → Kind
kind_of s = cond (eqb (get_or s 0 0) (get_or acl_word 0 0)) Acl Rules
