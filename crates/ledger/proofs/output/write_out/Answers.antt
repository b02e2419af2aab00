-- `ledger::output::write_out` meets its contract: the bytes are entered. Assumes nothing.
use Rattle.std.proofs.Common.{refl}
use Rattle.ledger.specs.Ledger.{wrote, enter_is}
use Rattle.ledger.proofs.output.write_out.Goals as goal

pub returns : goal.returns
returns c = enter_is _ (wrote _ _) refl c.one_more.ensures
