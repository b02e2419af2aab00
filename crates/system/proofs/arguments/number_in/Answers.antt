-- `system::arguments::number_in` meets its contract: the cursor reads the line. Assumes nothing.
use mathlib.Core.Path.{sym, ◌∙◌}
use Rattle.system.proofs.Telling.{number_found, number_wrong}
use Rattle.system.proofs.arguments.number_in.Goals as goal

pub returns-in_default : goal.returns-in_default
returns-in_default c = number_wrong _ (sym c.whole.ensures ∙ c.in_default.is)

pub returns : goal.returns
returns c = number_found _ (sym c.whole.ensures ∙ c.in-Ok.is)
