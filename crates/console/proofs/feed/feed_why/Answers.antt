-- `console::feed::feed_why` meets its contract: each line of the piece asks why the rule misses. Assumes nothing.
use Rattle.console.specs.Judged.{answer_asked}
use Rattle.console.proofs.feed.feed_why.Goals as goal

pub returns : goal.returns
unfolding answer_asked
returns c = c.feed_by.ensures
