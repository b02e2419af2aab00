-- `fields::range::range_holds` meets its contract: the two tests are those of `range_holds`, in its order.
use borrow.Author.Rules.{rules}
use Rattle.fields.specs.Ranges.{range_holds}
use Rattle.fields.proofs.range.range_holds.Goals as goal

pub returns : goal.returns
unfolding range_holds
returns c = search rules
