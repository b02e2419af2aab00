-- `system::out::say_written` meets its contract, by what was written. Assumes nothing.
use mathlib.Core.Path.{sym}
use lib.Seq.{length-take-le}
use Rattle.ledger.proofs.Entering.{enters_none, enters_as}
use Rattle.system.proofs.Handing.{front_within, front_refused, front_said}
use Rattle.system.proofs.out.say_written.Goals as goal

pub slice_bounds-say-end : goal.slice_bounds-say-end
slice_bounds-say-end c = sym (length-take-le _ _ (front_within _ c.in-Ok.is c.requires))

pub returns-in-Err : goal.returns-in-Err
returns-in-Err c = enters_none (front_refused _ c.in-Err.is)

pub returns-in-Ok : goal.returns-in-Ok
returns-in-Ok c = enters_as c.say.ensures (front_said _ c.in-Ok.is)
