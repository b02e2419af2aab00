-- The piece of a rule's line that says one field. Definitions only.
--   places              where each field begins among the numbers of a rule's line, and where the last one ends
--   between from to l   what stands in l from one place to another
--   piece_of f vs        what the line with the numbers vs says of field f: its numbers, each behind its separator
--   words_for rs r f    what the line of rule r says of field f; nothing where the rule is not wholly lent, or there is
--                       no such field
--   words_line rs r     `rule`, the number r, and then what the line of rule r says of each field in turn
use Rattle.std.specs.Prelude.{ℕ, ◌+◌, ◌-◌, cond, ◌&&◌, List, [], ◌∷◌, ◌++◌, get_or, take, drop, ltb}
use Rattle.fields.specs.Words.{field_count}
use Rattle.rules.specs.Words.{rule_there}
use Rattle.text.specs.Words.{tab, rule_word, rule_marks}
use Rattle.text.specs.Numbers.{digits_of}
use Rattle.text.specs.Line.{print_fields}
use Rattle.rule_file.specs.Records.{rule_values, rule_at}

abbrev pub places : List ℕ
places = 1 ∷ 6 ∷ 11 ∷ 13 ∷ 15 ∷ 17 ∷ []

abbrev pub between : ℕ → ℕ → List ℕ → List ℕ
between from to l = take (to - from) (drop from l)

unfoldable pub piece_of : ℕ → List ℕ → List ℕ
piece_of f vs =
    print_fields (between (get_or places f 0) (get_or places (f + 1) 0) rule_marks)
    (between (get_or places f 0) (get_or places (f + 1) 0) vs)

unfoldable pub words_for : List ℕ → ℕ → ℕ → List ℕ
words_for rs r f = cond (rule_there rs r && ltb f field_count) (piece_of f (rule_values r (rule_at rs r))) []

abbrev pub words_line : List ℕ → ℕ → List ℕ
words_line rs r =
    let words : ℕ → List ℕ = words_for rs r in
    rule_word ++ ((tab ∷ digits_of r) ++ (words 0 ++ (words 1 ++ (words 2 ++ (words 3 ++ words 4)))))
