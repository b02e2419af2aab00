-- `compile::run` meets its contract: the arguments decide what is asked. Assumes nothing.
use native.Mathlib.Omega.{arith}
use Rattle.ledger.specs.Ledger.{counted}
use Rattle.ledger.proofs.Entering.{enters_one, enters_first}
use Rattle.system.specs.Runs.{too_many, at_once}
use Rattle.system.proofs.Asking.{compile_wrong, step_ran, next_ran}
use Rattle.compile.proofs.run.Goals as goal

pub returns-then-count-lt2 : goal.returns-then-count-lt2
returns-then-count-lt2 c =
    enters_first (counted _) c.argument_count-count.ensures c.compile_list.ensures (λ es h. at_once _ c.if-count-lt2.true h)

pub returns-then-count-gt3 : goal.returns-then-count-gt3
returns-then-count-gt3 c =
    enters_one (counted _) c.argument_count-count.ensures (too_many _ c.if-count-gt3.true)

pub returns-then-count-eq2 : goal.returns-then-count-eq2
returns-then-count-eq2 c =
    step_ran _ _ c.argument_count-count.ensures c.number_told.ensures c.in-Some.is c.if-count-eq2.true c.compile_list-then-count-eq2.ensures

pub returns-in-None : goal.returns-in-None
returns-in-None c =
    compile_wrong _ _ c.argument_count-count.ensures c.number_told.ensures c.if-count-lt2.false c.if-count-gt3.false c.in-None.is

pub returns-else-count-eq2 : goal.returns-else-count-eq2
returns-else-count-eq2 c =
    next_ran _ _ c.argument_count-count.ensures c.number_told.ensures c.in-Some.is (omega (arith, c.if-count-lt2.false, c.if-count-gt3.false, c.if-count-eq2.false)) c.compile_list-in-Some.ensures
