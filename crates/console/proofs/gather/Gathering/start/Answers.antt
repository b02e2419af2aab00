-- `console::gather::Gathering::start` meets its contract: nothing is held. Assumes nothing.
use mathlib.Core.Path.{refl}
use Rattle.console.specs.Gathered.{begun}
use Rattle.console.proofs.gather.Gathering.start.Goals as goal

pub returns : goal.returns
unfolding begun
returns c = refl
