-- `rules::matching::matches` meets its contract: the lowest field that disagrees is compared with the number of fields.
-- Assumes nothing.
use mathlib.Core.Path.{ap}
use lib.Dec.{eqb}
use Rattle.fields.specs.Words.{field_count}
use Rattle.rules.specs.Matching.{matches}
use Rattle.rules.proofs.matching.matches.Goals as goal

pub returns : goal.returns
unfolding matches
returns c = ap (λ f. eqb f field_count) c.first_miss.ensures
