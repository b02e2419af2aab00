-- `console::reply::answer_miss` meets its contract: a refusal, or the line of the field. Assumes nothing.
use Rattle.text.proofs.Said.{said_same}
use Rattle.console.proofs.Searching.{miss_refused, miss_found}
use Rattle.console.proofs.reply.answer_miss.Goals as goal

pub returns-in-Err : goal.returns-in-Err
returns-in-Err c = said_same (miss_refused _ _ _ c.rule_misses.ensures c.in-Err.is)
    c.refused_line.ensures.said

pub returns-in-Ok : goal.returns-in-Ok
returns-in-Ok c = said_same (miss_found _ _ _ c.rule_misses.ensures c.in-Ok.is)
    c.miss_line.ensures
