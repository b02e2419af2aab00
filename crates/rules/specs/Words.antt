-- The words of a list of rules. Definitions only.
--   rule_words           the words of a rule: those that say what it matches, and then its action
--   match_words          those that say what it matches
--   most_rules           the most rules that a list holds
--   rule_count rs        the number of whole rules
--   rule_there rs r      rule r is wholly lent
--   word_of rs r j        word j of rule r; 0 where it is not lent
--   action_of rs r       the action of rule r, as it stands
--   largest_protocol     the largest end of a rule's range of protocols
--   largest_action       the largest action of a good rule
--   Form                 how a rule gives a field:
--     Prefix address len        by a prefix: the words of its address and of its length
--     Range low high largest    by a range: the words of its two ends, and the largest end that it may have
--     Ports low high            by a range of ports: the words of its two ends
--   forms                the form of each field: source, destination, source port, destination port, protocol
--   form_of f             the form of field f
--   field_of form rs r   the field that rule r gives in that form
use Rattle.std.specs.Prelude.{ℕ, ◌+◌, ◌*◌, ◌/◌, Bool, List, [], ◌∷◌, length, get_or, ltb}
use Rattle.fields.specs.declared.field.Field.{Field}
use Rattle.fields.specs.declared.field.Field.TheVariants as field
use Rattle.rules.specs.declared.words.Form.{Form}
use Rattle.rules.specs.declared.words.Form.TheVariants.{Prefix, Range, Ports}

abbrev pub rule_words : ℕ
rule_words = 11

abbrev pub match_words : ℕ
match_words = 10

abbrev pub most_rules : ℕ
most_rules = 512

abbrev pub rule_count : List ℕ → ℕ
rule_count rs = length rs / rule_words

abbrev pub rule_there : List ℕ → ℕ → Bool
rule_there rs r = ltb r (rule_count rs)

abbrev pub word_of : List ℕ → ℕ → ℕ → ℕ
word_of rs r j = get_or rs (r * rule_words + j) 0

abbrev pub action_of : List ℕ → ℕ → ℕ
action_of rs r = word_of rs r match_words

abbrev pub largest_protocol : ℕ
largest_protocol = 255

abbrev pub largest_action : ℕ
largest_action = 255

abbrev pub forms : List Form
forms = Prefix 0 1 ∷ Prefix 2 3 ∷ Ports 4 5 ∷ Ports 6 7 ∷ Range 8 9 largest_protocol ∷ []

abbrev pub form_of : ℕ → Form
form_of f = get_or forms f (Prefix 0 0)

abbrev pub field_of : Form → List ℕ → ℕ → Field
field_of (Prefix address len) rs r = field.Prefix (word_of rs r address) (word_of rs r len)
field_of (Range low high largest) rs r = field.Range (word_of rs r low) (word_of rs r high) largest
field_of (Ports low high) rs r = field.Ports (word_of rs r low) (word_of rs r high)
