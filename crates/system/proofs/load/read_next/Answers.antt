-- `system::load::read_next` meets its contract: one byte is asked for. Assumes nothing.
use native.Mathlib.Omega.{arith}
use Rattle.ledger.specs.Ledger.{read}
use Rattle.ledger.proofs.Entering.{enters_one}
use Rattle.system.proofs.Loading.{past_read}
use Rattle.system.proofs.load.read_next.Goals as goal

pub returns : goal.returns
returns c = enters_one (read _ _ _ _) c.read_some.ensures.ledger_after (past_read _ (omega arith)
    c.read_some.ensures.front)
