-- `builder::choice::more_of` meets its contract: the test is that of `more_of`. Assumes nothing.
use borrow.Author.Tests.{lt-ltb, le-ltb}
use Rattle.builder.specs.ChoiceSteps.{more_of}
use Rattle.builder.proofs.choice.more_of.Goals as goal

pub returns-then-first-next : goal.returns-then-first-next
unfolding more_of
returns-then-first-next c = rw (lt-ltb _ _ c.if-first-next.true)

pub returns : goal.returns
unfolding more_of
returns c = rw (le-ltb _ _ c.if-first-next.false)
