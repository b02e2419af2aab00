-- `fields::prefix::prefix_agrees` meets its contract: the bits in which the two differ make a number below that of
-- `sharing` exactly where the first bits agree.
use mathlib.Core.Path.{ap₂, ◌∙◌}
use lib.Dec.{ltb}
use Rattle.fields.proofs.Prefixes.{difference_agrees}
use Rattle.fields.proofs.prefix.prefix_agrees.Goals as goal

pub returns : goal.returns
returns c = ap₂ ltb c.from.ensures c.sharing.ensures ∙ difference_agrees _ _ _ _
