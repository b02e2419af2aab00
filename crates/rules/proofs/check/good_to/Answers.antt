-- `rules::check::good_to` meets its contract: the fields decide first, and then the action.
use mathlib.Core.Path.{◌∙◌}
use Rattle.facts.proofs.Bools.{held, failed}
use Rattle.rules.proofs.Actions.{fields_fail, action_decides}
use Rattle.rules.proofs.check.good_to.Goals as goal

pub returns-then-fields_good : goal.returns-then-fields_good
returns-then-fields_good c = rw c.action_of.ensures
    (action_decides _ _ _ (held c.fields_good.ensures c.if-fields_good.true))

pub returns-else-fields_good : goal.returns-else-fields_good
returns-else-fields_good c = let failing = c.if-fields_good.false in
    failing ∙ fields_fail _ _ _ (failed c.fields_good.ensures failing)
