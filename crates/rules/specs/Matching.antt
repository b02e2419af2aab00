-- Matching: rules and headers. Definitions only.
--   agrees rs h r f       field f of rule r agrees with header h; for any words
--   first_miss rs h r     the lowest field of rule r that disagrees with header h, or the number of fields
--   matches rs h r        rule r matches header h: no field disagrees
--   rule_matches rs h r   rule r is wholly lent, the header has five words, and the rule matches it
--   matching rs h         the numbers of the rules that match h, rising
--   rule_box rs r         the box that a good rule stands for: the ends of each field
use Rattle.std.specs.Prelude.{ℕ, Bool, not, ◌&&◌, List, map, length, get_or, eqb}
use Rattle.facts.specs.Below.{lowest}
use Rattle.facts.specs.Lists.{up_from, keep}
use Rattle.fields.specs.Words.{field_count}
use Rattle.fields.specs.Fields.{field_matches, field_ends}
use Rattle.rules.specs.Words.{rule_count, rule_there, forms, form_of, field_of}

unfoldable pub agrees : List ℕ → List ℕ → ℕ → ℕ → Bool
agrees rs h r f = field_matches (field_of (form_of f) rs r) (get_or h f 0)

unfoldable pub first_miss : List ℕ → List ℕ → ℕ → ℕ
first_miss rs h r = lowest field_count 0 (λ f. not (agrees rs h r f))

unfoldable pub matches : List ℕ → List ℕ → ℕ → Bool
matches rs h r = eqb (first_miss rs h r) field_count

unfoldable pub rule_matches : List ℕ → List ℕ → ℕ → Bool
rule_matches rs h r = rule_there rs r && (eqb (length h) field_count && matches rs h r)

unfoldable pub matching : List ℕ → List ℕ → List ℕ
matching rs h = keep (matches rs h) (up_from 0 (rule_count rs))

unfoldable pub rule_box : List ℕ → ℕ → List (List ℕ)
rule_box rs r = map (λ form. field_ends (field_of form rs r)) forms
