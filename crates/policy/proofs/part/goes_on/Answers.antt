-- `policy::part::goes_on` meets its contract: of the words that were taken the part check decides. Assumes nothing.
use Rattle.refusals.proofs.Passing.{passed}
use Rattle.policy.proofs.PartTaking.{none_goes_on, judged_goes_on}
use Rattle.policy.proofs.part.goes_on.Goals as goal

pub returns-in_err-part : goal.returns-in_err-part
returns-in_err-part c = rw (passed _ c.from_residual.ensures.1)
    (none_goes_on c.args.rules.now c.args.nodes.now c.args.pool.now c.in_err-part.was)

pub returns : goal.returns
returns c = judged_goes_on c.args.rules.now c.args.nodes.now c.args.pool.now
    c.in_ok-part.was c.min-a.ensures c.min-b.ensures c.judged.ensures
