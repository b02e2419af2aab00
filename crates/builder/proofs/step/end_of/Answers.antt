-- `builder::step::end_of` meets its contract: a sum past the most end is that end, and none counts as one. Assumes
-- nothing.
use native.Mathlib.Omega.{arith}
use Rattle.builder.specs.BuildSteps.{end_of}
use Rattle.builder.proofs.step.end_of.Goals as goal

pub returns : goal.returns
unfolding end_of
returns c = omega (arith, c.max.ensures, c.saturating_add.ensures, c.min.ensures)
