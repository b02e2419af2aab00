-- `system::out::say` meets its contract: bytes are handed out by one call, and none by none. Assumes nothing.
use Rattle.std.proofs.Common.{rules}
use Rattle.ledger.specs.Ledger.{wrote}
use Rattle.ledger.proofs.Entering.{enters_none, enters_one}
use Rattle.system.proofs.Handing.{hands_none, hands_some}
use Rattle.system.proofs.out.say.Goals as goal

pub returns-then-is_empty : goal.returns-then-is_empty
returns-then-is_empty c = enters_none (hands_none _ (search rules))

pub returns : goal.returns
returns c = enters_one (wrote _ _) c.write_out.ensures (hands_some _ _ (λ e. absurd (search rules)))
