-- `system::serve::answer_lines` meets its contract: at each turn the reads before it are answered. Assumes nothing.
use native.Mathlib.Omega.{arith}
use Rattle.ledger.proofs.Entering.{enters_none, enters_as, enters_then}
use Rattle.system.proofs.Inputs.{reached_first, reached_next, reached_stop, reached_last}
use Rattle.system.proofs.serve.answer_lines.Goals as goal
use Rattle.system.proofs.serve.answer_lines.Goals.{else-loop-test, then-loop-test+in_default}

pub loop-init : goal.loop-init
loop-init c = (omega arith, omega arith, enters_none (reached_first c.start.ensures))

pub loop-preserved : goal.loop-preserved
loop-preserved c = (
  omega arith,
  omega arith,
  enters_then c.loop.invariant.2 c.answer_some-turn.ensures (reached_next c.in-Going.is),
)

pub returns-in-Stopped : goal.returns-in-Stopped
returns-in-Stopped c = enters_as c.loop.invariant.2 (reached_stop c.in-Stopped.is)

pub returns-in-Going-turn : goal.returns-in-Going-turn
returns-in-Going-turn c =
    enters_then c.loop.invariant.2 c.say_last.ensures
    (reached_last c.in-Going-turn.is
    (λ more. elim c.loop-test.branch [
      | else-loop-test w ↦ omega arith
      | then-loop-test+in_default w ↦ absurd (w.in_default.not-Going _ more)
    ]))
