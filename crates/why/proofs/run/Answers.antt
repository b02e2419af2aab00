-- `why::run` meets its contract: the rule is the one that the argument says. Assumes nothing.
use Rattle.ledger.specs.Ledger.{counted}
use Rattle.ledger.proofs.Entering.{enters_one}
use Rattle.system.specs.Runs.{not_one}
use Rattle.system.proofs.Asking.{why_wrong, why_ran}
use Rattle.why.proofs.run.Goals as goal

pub returns-then-argument_count-ne-ARGUMENTS : goal.returns-then-argument_count-ne-ARGUMENTS
returns-then-argument_count-ne-ARGUMENTS c =
    enters_one (counted _) c.argument_count.ensures (not_one _ c.if-argument_count-ne-ARGUMENTS.true)

pub returns-in-None : goal.returns-in-None
returns-in-None c =
    why_wrong _ _ c.argument_count.ensures c.number_told.ensures c.if-argument_count-ne-ARGUMENTS.false c.in-None.is

pub returns-in-Some : goal.returns-in-Some
returns-in-Some c =
    why_ran _ _ c.argument_count.ensures c.number_told.ensures c.in-Some.is c.if-argument_count-ne-ARGUMENTS.false c.answer.ensures
