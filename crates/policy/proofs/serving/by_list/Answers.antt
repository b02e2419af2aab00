-- `policy::serving::by_list` meets its contract: it is what a refusal leaves. Assumes nothing.
use mathlib.Core.Path.{refl}
use Rattle.policy.specs.WhoServes.{serving}
use Rattle.policy.proofs.serving.by_list.Goals as goal

pub returns : goal.returns
unfolding serving
returns c = refl
