-- `rules::lacking::lacking` meets its contract: a rule whose box does not meet the box is not lacking, and of one that
-- does the entries decide.
use mathlib.Core.Path.{◌∙◌}
use Rattle.facts.proofs.Bools.{held, failed}
use Rattle.rules.proofs.Lacks.{apart_not_lacking, entries_decide}
use Rattle.rules.proofs.lacking.lacking.Goals as goal

pub returns-then-box_meets : goal.returns-then-box_meets
returns-then-box_meets c = entries_decide _ _ _ _ (held c.box_meets.ensures c.if-box_meets.true) c.stands_in.ensures

pub returns-else-box_meets : goal.returns-else-box_meets
returns-else-box_meets c = let apart = c.if-box_meets.false in
    apart ∙ apart_not_lacking _ _ _ _ (failed c.box_meets.ensures apart)
