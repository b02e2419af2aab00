-- `text::end::end_line` meets its contract: the line is read, and then the tests are those of `end_line_at`, in its
-- order. Assumes nothing.
use mathlib.Core.Path.{sym, ◌∙◌}
use Rattle.refusals.proofs.Passing.{passed}
use Rattle.text.proofs.EndLines.{line_missing, not_complete, other_number, more_after, none_after}
use Rattle.text.proofs.end.end_line.Goals as goal

pub returns-in_err-read : goal.returns-in_err-read
returns-in_err-read c = rw (passed _ c.from_residual.ensures.1)
    (line_missing _ _ _ _ (sym c.line.ensures ∙ c.in_err-read.was))

pub returns-then-not-complete : goal.returns-then-not-complete
returns-then-not-complete c = not_complete _ _ _ _ (sym c.line.ensures ∙ c.in_ok-read.was) c.if-not-complete.true
    c.wrong.ensures

pub returns-then-read-before : goal.returns-then-read-before
returns-then-read-before c = other_number _ _ _ _ (sym c.line.ensures ∙ c.in_ok-read.was) c.if-not-complete.false
    c.if-read-before.true c.wrong-then-read-before.ensures

pub returns-then-next-text : goal.returns-then-next-text
returns-then-next-text c = more_after _ _ _ _ (sym c.line.ensures ∙ c.in_ok-read.was) c.if-not-complete.false
    c.if-read-before.false c.if-next-text.true c.wrong-then-next-text.ensures

pub returns : goal.returns
returns c = none_after _ _ _ _ (sym c.line.ensures ∙ c.in_ok-read.was) c.if-not-complete.false c.if-read-before.false
    c.if-next-text.false
