-- `ledger::input::open_file` meets its contract: the path is entered. Assumes nothing.
use Rattle.std.proofs.Common.{refl}
use Rattle.ledger.specs.Ledger.{opened, enter_is}
use Rattle.ledger.proofs.input.open_file.Goals as goal

pub returns : goal.returns
returns c = enter_is _ (opened _ _) refl c.one_more.ensures
