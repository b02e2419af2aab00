-- `ledger::arguments::argument` meets its contract: the argument is entered. Assumes nothing.
use Rattle.std.proofs.Common.{rules}
use Rattle.ledger.specs.Ledger.{argued, enter_is}
use Rattle.ledger.proofs.arguments.argument.Goals as goal

pub returns-clause-ledger_after : goal.returns-clause-ledger_after
returns-clause-ledger_after c = enter_is _ (argued _ _ _) (search rules) c.one_more.ensures
