-- `text::cursor::Cursor::whole` meets its contract: the fields, and nothing behind them. Assumes nothing.
use mathlib.Core.Path.{sym, ◌∙◌}
use Rattle.refusals.proofs.Passing.{passed}
use Rattle.text.proofs.Views.{fields_next, fields_refused}
use Rattle.text.proofs.LineViews.{end_next, end_refused, whole_no_fields, whole_more, whole_fields}
use Rattle.text.proofs.cursor.Cursor.whole.Goals as goal

pub returns-in_err-read : goal.returns-in_err-read
returns-in_err-read c = let no = fields_refused _ _ _ _ (sym c.fields.ensures ∙ c.in_err-read.was) in
    rw (passed _ c.from_residual.ensures.1) (whole_no_fields _ _ _ _ no.0 no.1)

pub returns-in_err-next : goal.returns-in_err-next
returns-in_err-next c = let more = end_refused _ _ (sym c.end.ensures ∙ c.in_err-next.was) in
    rw (passed _ c.from_residual-in_err-next.ensures.1)
    (whole_more _ _ _ _ (fields_next _ _ _ _ (sym c.fields.ensures ∙ c.in_ok-read.was)) more.0 more.1)

pub returns : goal.returns
returns c = let none = end_next _ _ (sym c.end.ensures ∙ c.in_ok-next.was) in
    whole_fields _ _ _ _ (fields_next _ _ _ _ (sym c.fields.ensures ∙ c.in_ok-read.was)) none.0 none.1
