-- `tree_check::check::end_verdict` meets its contract: a node left over comes before a rule that is lacking.
-- Assumes nothing.
use Rattle.tree_check.proofs.Checks.{end_left_over, end_complete, end_lacking}
use Rattle.tree_check.proofs.check.end_verdict.Goals as goal

pub returns-then-next-count : goal.returns-then-next-count
returns-then-next-count c = end_left_over _ _ c.args.lack c.if-next-count.true

pub returns-in-None : goal.returns-in-None
returns-in-None c = end_complete _ _ _ c.if-next-count.false c.in-None.is

pub returns-in-Some : goal.returns-in-Some
returns-in-Some c = end_lacking _ _ _ c.if-next-count.false c.in-Some.is
