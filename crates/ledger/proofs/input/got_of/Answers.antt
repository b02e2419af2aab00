-- `ledger::input::got_of` meets its contract: an error is a failure, 0 the end, and any other number so many
-- bytes. Assumes nothing.
use Rattle.std.proofs.Common.{◌∙◌}
use Rattle.ledger.proofs.Reading.{failed_got, count_got, ended_count, bytes_count}
use Rattle.ledger.proofs.input.got_of.Goals as goal

pub returns-in_default : goal.returns-in_default
returns-in_default c = failed_got _ c.in_default.is

pub returns-then-count-eq0 : goal.returns-then-count-eq0
returns-then-count-eq0 c =
    ended_count c.min-count.result c.if-count-eq0.true ∙ count_got _ c.in-Ok.is c.min-count.ensures

pub returns : goal.returns
returns c = bytes_count c.min-count.result c.if-count-eq0.false ∙ count_got _ c.in-Ok.is c.min-count.ensures
