-- `builder::grow::right_child` meets its contract: the test is that of `child_before`. Assumes nothing.
use borrow.Author.Tests.{lt-ltb, le-ltb}
use Rattle.built.specs.Stops.{child_before}
use Rattle.builder.proofs.grow.right_child.Goals as goal

pub returns-then-next-end : goal.returns-then-next-end
unfolding child_before
returns-then-next-end c = rw (lt-ltb _ _ c.if-next-end.true)

pub returns : goal.returns
unfolding child_before
returns c = rw (le-ltb _ _ c.if-next-end.false)
