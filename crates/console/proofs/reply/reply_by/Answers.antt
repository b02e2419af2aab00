-- `console::reply::reply_by` meets its contract: the line is looked at, then what is asked of the header is answered.
-- Assumes nothing.
use mathlib.Core.Path.{sym, ap, ◌∙◌}
use Rattle.console.specs.Lines.{refused_line}
use Rattle.text.proofs.Said.{said_same}
use Rattle.console.proofs.Replying.{none_asked, one_asked}
use Rattle.console.proofs.reply.reply_by.Goals as goal

pub returns-in-None : goal.returns-in-None
returns-in-None c = let none = none_asked _ _ _ (sym c.in-None.is ∙ c.head_in.ensures) in
    said_same (ap refused_line c.wrong.ensures ∙ none) c.refused_line.ensures.said

pub returns-in-Some : goal.returns-in-Some
returns-in-Some c = said_same (one_asked _ _ _ (sym c.in-Some.is ∙ c.head_in.ensures)) c.answer_asked.ensures
