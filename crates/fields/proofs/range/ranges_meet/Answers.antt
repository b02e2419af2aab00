-- `fields::range::ranges_meet` meets its contract: the two tests are those of `ranges_meet`, in its order.
use borrow.Author.Tests.{le-leb, lt-leb}
use Rattle.fields.specs.Ranges.{ranges_meet}
use Rattle.fields.proofs.range.ranges_meet.Goals as goal

pub returns-then-low-to : goal.returns-then-low-to
unfolding ranges_meet
returns-then-low-to c = simp (le-leb _ _ c.if-low-to.true)

pub returns-else-low-to : goal.returns-else-low-to
unfolding ranges_meet
returns-else-low-to c = simp (lt-leb _ _ c.if-low-to.false)
