-- `builder::choice::most_in` meets its contract. The invariant: what is held has the most values of the fields before
-- this one, and the lent words are as many as before. Assumes nothing.
use mathlib.Core.Path.{◌∙◌}
use Rattle.builder.proofs.Most.{most_step}
use Rattle.builder.proofs.choice.most_in.Goals as goal

pub loop-f-preserved : goal.loop-f-preserved
loop-f-preserved c = let sizes = c.values_of-next.auto in (
  sizes.values ∙ c.loop-f.invariant.0,
  sizes.spare ∙ c.loop-f.invariant.1,
  rw c.more_of-most.ensures (most_step c.loop-f.invariant.2 c.values_of-next.ensures),
)
