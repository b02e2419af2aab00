-- Boxes with numbers from 0 on, and those that meet a box. Definitions only.
--   box_of boxes r       box r
--   meeting n boxes b    the numbers of the boxes that meet box b, each box having n fields; rising
--   boxes_of rs          the boxes of the rules of a list
use Rattle.std.specs.Prelude.{ℕ, List, [], map, length, get_or}
use Rattle.facts.specs.Lists.{up_from, keep}
use Rattle.fields.specs.Boxes.{meets}
use Rattle.rules.specs.Words.{rule_count}
use Rattle.rules.specs.Matching.{rule_box}

abbrev pub box_of : List (List (List ℕ)) → ℕ → List (List ℕ)
box_of boxes r = get_or boxes r []

unfoldable pub meeting : ℕ → List (List (List ℕ)) → List (List ℕ) → List ℕ
meeting n boxes b = keep (λ r. meets n (box_of boxes r) b) (up_from 0 (length boxes))

unfoldable pub boxes_of : List ℕ → List (List (List ℕ))
boxes_of rs = map (rule_box rs) (up_from 0 (rule_count rs))
