-- `system::serve::serve` meets its contract: which rules match is what is asked. Assumes nothing.
use Rattle.system.specs.Turns.{answer_for}
use Rattle.system.proofs.serve.serve.Goals as goal

pub returns : goal.returns
unfolding answer_for
returns c = c.answer_lines.ensures
