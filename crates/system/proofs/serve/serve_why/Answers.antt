-- `system::serve::serve_why` meets its contract: why the rule misses is what is asked. Assumes nothing.
use Rattle.system.specs.Turns.{answer_for}
use Rattle.system.proofs.serve.serve_why.Goals as goal

pub returns : goal.returns
unfolding answer_for
returns c = c.answer_lines.ensures
