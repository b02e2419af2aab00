-- `policy::part::judged` meets its contract: what the part check says decides. Assumes nothing.
use mathlib.Core.Path.{sym, ◌∙◌}
use Rattle.policy.proofs.PartTaking.{begun_refused, begun_fine}
use Rattle.policy.proofs.part.judged.Goals as goal

pub returns-in-Err : goal.returns-in-Err
returns-in-Err c = begun_refused _ _ _ (sym c.part_check.ensures ∙ c.in-Err.is)

pub returns : goal.returns
returns c = begun_fine _ _ _ (sym c.part_check.ensures ∙ c.in_default.is)
