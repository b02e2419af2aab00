-- The cuts still allowed fall at each call of `builder::grow::grow`.
use Rattle.builder.proofs.grow.+grow.Given as goal

abbrev pub decreases-grow : goal.decreases-grow
decreases-grow l = l.spot.cuts
