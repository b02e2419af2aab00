-- `builder::step::step_of` meets its contract: what goes on has stopped. Assumes nothing.
use Rattle.builder.proofs.step.step_of.Goals as goal

pub returns-then-grown : goal.returns-then-grown
returns-then-grown c = rw c.if-grown.true

pub returns : goal.returns
returns c = rw c.if-grown.false
