-- `ledger::arguments::argument_count` meets its contract: it is entered. Assumes nothing.
use Rattle.std.proofs.Common.{refl}
use Rattle.ledger.specs.Ledger.{counted, enter_is}
use Rattle.ledger.proofs.arguments.argument_count.Goals as goal

pub returns-then-not-is_given : goal.returns-then-not-is_given
returns-then-not-is_given c = enter_is _ (counted _) refl c.one_more.ensures

pub returns : goal.returns
returns c = enter_is _ (counted _) refl c.one_more.ensures
