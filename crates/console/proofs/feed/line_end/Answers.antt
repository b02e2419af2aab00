-- `console::feed::line_end` meets its contract: the cursor's answer decides. Assumes nothing.
use Rattle.console.specs.LineEnds.{line_end}
use Rattle.console.proofs.feed.line_end.Goals as goal

pub returns : goal.returns
unfolding line_end
returns c = rw c.line_end.ensures at c.unwrap_or.ensures
