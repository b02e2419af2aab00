-- What a list of entries lacks. Definitions only.
--   lacking rs l b r       rule r's box meets box b, and r is not among the entries l
--   lowest_lacking rs l b  the lowest rule that l lacks in b; the number of rules where l lacks none
--   lacked rs l b          that rule, or none
use Rattle.std.specs.Prelude.{ℕ, Bool, cond, ltb, not, ◌&&◌, List, None, Option, Some}
use Rattle.facts.specs.Below.{lowest}
use Rattle.facts.specs.Lists.{has}
use Rattle.fields.specs.Words.{field_count}
use Rattle.fields.specs.Boxes.{meets}
use Rattle.rules.specs.Words.{rule_count}
use Rattle.rules.specs.Matching.{rule_box}

unfoldable pub lacking : List ℕ → List ℕ → List (List ℕ) → ℕ → Bool
lacking rs l b r = meets field_count (rule_box rs r) b && not (has l r)

unfoldable pub lowest_lacking : List ℕ → List ℕ → List (List ℕ) → ℕ
lowest_lacking rs l b = lowest (rule_count rs) 0 (lacking rs l b)

unfoldable pub lacked : List ℕ → List ℕ → List (List ℕ) → Option ℕ
lacked rs l b = let r = lowest_lacking rs l b in cond (ltb r (rule_count rs)) (Some r) None
