-- `ledger::input::close_file` meets its contract: it is entered. Assumes nothing.
use Rattle.std.proofs.Common.{refl}
use Rattle.ledger.specs.Ledger.{closed, enter_is}
use Rattle.ledger.proofs.input.close_file.Goals as goal

pub returns : goal.returns
returns c = enter_is _ (closed _) refl c.one_more.ensures
