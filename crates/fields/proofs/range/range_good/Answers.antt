-- `fields::range::range_good` meets its contract: the two tests are those of `range_good`, in its order.
use borrow.Author.Tests.{le-leb, lt-leb}
use Rattle.fields.specs.Ranges.{range_good}
use Rattle.fields.proofs.range.range_good.Goals as goal

pub returns-then-low-high : goal.returns-then-low-high
unfolding range_good
returns-then-low-high c = simp (le-leb _ _ c.if-low-high.true)

pub returns-else-low-high : goal.returns-else-low-high
unfolding range_good
returns-else-low-high c = simp (lt-leb _ _ c.if-low-high.false)
