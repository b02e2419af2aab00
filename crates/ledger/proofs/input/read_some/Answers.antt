-- `ledger::input::read_some` meets its contract: what came stands in front of the lent bytes, and is entered. Assumes
-- nothing.
use Rattle.std.proofs.Common.{◌∙◌}
use Rattle.ledger.specs.Ledger.{read, enter_is}
use Rattle.ledger.proofs.Reading.{got_in_front, came_gave}
use Rattle.ledger.proofs.input.read_some.Goals as goal

pub returns-clause-ledger_after : goal.returns-clause-ledger_after
returns-clause-ledger_after c =
    let front = got_in_front _ _ c.got_of-got.ensures in
    enter_is _ (read _ _ _ _) (c.came.ensures ∙ came_gave _ _ front) c.one_more.ensures

pub returns-clause-front : goal.returns-clause-front
returns-clause-front c = got_in_front _ _ c.got_of-got.ensures
