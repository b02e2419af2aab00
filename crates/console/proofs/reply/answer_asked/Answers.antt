-- `console::reply::answer_asked` meets its contract, by what is asked. Assumes nothing.
use Rattle.text.proofs.Said.{said_same}
use Rattle.console.proofs.Judging.{asked_matches, asked_misses}
use Rattle.console.proofs.reply.answer_asked.Goals as goal

pub returns-in-Matches : goal.returns-in-Matches
returns-in-Matches c = said_same (asked_matches _ _ _ _ c.in-Matches.is) c.answer.ensures

pub returns-in-Misses : goal.returns-in-Misses
returns-in-Misses c = said_same (asked_misses _ _ _ _ c.in-Misses.is) c.answer_miss.ensures
