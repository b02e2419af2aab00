-- The fixed words and the separators of lines, as bytes. Definitions only.
--   newline, tab                      the byte that ends a line, and the one that parts its fields
--   rules_word .. misses_word         `rules`, `acl`, `rule`, `tree`, `part`, `cut`, `leaf`, `end`, `head`, `hit`,
--                                     `refused`, `match`, `misses`
--   source_name .. protocol_name      the names of the five fields: `source`, `destination`, `source port`,
--                                     `destination port`, `protocol`
--   one_tab .. four_tabs              the separators of a line of one to four numbers
--   rule_marks                        those of a rule: its number; two addresses with their lengths; six range ends
--   acl_marks                         those of a rule with its action behind them
--   head_marks                        those of a header: two addresses, and three numbers
--   most_fields                       the most numbers of a line with fixed separators
use Rattle.std.specs.Prelude.{ℕ, List, [], ◌∷◌}

abbrev pub newline : ℕ
newline = 10

abbrev pub tab : ℕ
tab = 9

abbrev pub rules_word : List ℕ
rules_word = 114 ∷ 117 ∷ 108 ∷ 101 ∷ 115 ∷ []

abbrev pub acl_word : List ℕ
acl_word = 97 ∷ 99 ∷ 108 ∷ []

abbrev pub rule_word : List ℕ
rule_word = 114 ∷ 117 ∷ 108 ∷ 101 ∷ []

abbrev pub tree_word : List ℕ
tree_word = 116 ∷ 114 ∷ 101 ∷ 101 ∷ []

abbrev pub part_word : List ℕ
part_word = 112 ∷ 97 ∷ 114 ∷ 116 ∷ []

abbrev pub cut_word : List ℕ
cut_word = 99 ∷ 117 ∷ 116 ∷ []

abbrev pub leaf_word : List ℕ
leaf_word = 108 ∷ 101 ∷ 97 ∷ 102 ∷ []

abbrev pub end_word : List ℕ
end_word = 101 ∷ 110 ∷ 100 ∷ []

abbrev pub head_word : List ℕ
head_word = 104 ∷ 101 ∷ 97 ∷ 100 ∷ []

abbrev pub hit_word : List ℕ
hit_word = 104 ∷ 105 ∷ 116 ∷ []

abbrev pub refused_word : List ℕ
refused_word = 114 ∷ 101 ∷ 102 ∷ 117 ∷ 115 ∷ 101 ∷ 100 ∷ []

abbrev pub match_word : List ℕ
match_word = 109 ∷ 97 ∷ 116 ∷ 99 ∷ 104 ∷ []

abbrev pub misses_word : List ℕ
misses_word = 109 ∷ 105 ∷ 115 ∷ 115 ∷ 101 ∷ 115 ∷ []

abbrev pub source_name : List ℕ
source_name = 115 ∷ 111 ∷ 117 ∷ 114 ∷ 99 ∷ 101 ∷ []

abbrev pub destination_name : List ℕ
destination_name = 100 ∷ 101 ∷ 115 ∷ 116 ∷ 105 ∷ 110 ∷ 97 ∷ 116 ∷ 105 ∷ 111 ∷ 110 ∷ []

abbrev pub source_port_name : List ℕ
source_port_name = 115 ∷ 111 ∷ 117 ∷ 114 ∷ 99 ∷ 101 ∷ 32 ∷ 112 ∷ 111 ∷ 114 ∷ 116 ∷ []

abbrev pub destination_port_name : List ℕ
destination_port_name = 100 ∷ 101 ∷ 115 ∷ 116 ∷ 105 ∷ 110 ∷ 97 ∷ 116 ∷ 105 ∷ 111 ∷ 110 ∷ 32 ∷ 112 ∷ 111 ∷ 114 ∷ 116 ∷ []

abbrev pub protocol_name : List ℕ
protocol_name = 112 ∷ 114 ∷ 111 ∷ 116 ∷ 111 ∷ 99 ∷ 111 ∷ 108 ∷ []

abbrev pub one_tab : List ℕ
one_tab = tab ∷ []

abbrev pub two_tabs : List ℕ
two_tabs = tab ∷ tab ∷ []

abbrev pub three_tabs : List ℕ
three_tabs = tab ∷ tab ∷ tab ∷ []

abbrev pub four_tabs : List ℕ
four_tabs = tab ∷ tab ∷ tab ∷ tab ∷ []

abbrev pub rule_marks : List ℕ
rule_marks = 9 ∷ 9 ∷ 46 ∷ 46 ∷ 46 ∷ 47 ∷ 9 ∷ 46 ∷ 46 ∷ 46 ∷ 47 ∷ 9 ∷ 9 ∷ 9 ∷ 9 ∷ 9 ∷ 9 ∷ []

abbrev pub acl_marks : List ℕ
acl_marks = 9 ∷ 9 ∷ 46 ∷ 46 ∷ 46 ∷ 47 ∷ 9 ∷ 46 ∷ 46 ∷ 46 ∷ 47 ∷ 9 ∷ 9 ∷ 9 ∷ 9 ∷ 9 ∷ 9 ∷ 9 ∷ []

abbrev pub head_marks : List ℕ
head_marks = 9 ∷ 46 ∷ 46 ∷ 46 ∷ 9 ∷ 46 ∷ 46 ∷ 46 ∷ 9 ∷ 9 ∷ 9 ∷ []

abbrev pub most_fields : ℕ
most_fields = 18
