-- `system::out::say_last` meets its contract: there is room for the line. Assumes nothing.
use native.Mathlib.Omega.{arith}
use Rattle.ledger.proofs.Entering.{enters_as}
use Rattle.system.proofs.Handing.{said_within, said_handed}
use Rattle.system.proofs.out.say_last.Goals as goal

pub say_written-requires : goal.say_written-requires
say_written-requires c = said_within _ c.last_reply-said.ensures.said

pub returns : goal.returns
returns c = enters_as c.say_written.ensures (said_handed _ c.last_reply-said.ensures.said (omega arith))
