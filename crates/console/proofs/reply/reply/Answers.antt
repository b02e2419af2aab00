-- `console::reply::reply` meets its contract: the list is judged, and then the line is replied to. Assumes nothing.
use Rattle.text.proofs.Said.{said_same}
use Rattle.console.proofs.Judging.{judged_reply}
use Rattle.console.proofs.reply.reply.Goals as goal

pub returns : goal.returns
returns c = said_same (judged_reply _ _ _ _ c.by_of.ensures _ _) c.reply_by.ensures
