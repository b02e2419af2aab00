-- `text::cursor::Cursor::line` meets its contract: its end is found before it is read. Assumes nothing.
use native.Mathlib.Omega.{arith}
use mathlib.Core.Path.{sym, ◌∙◌}
use lib.Seq.{length-take-le}
use Rattle.refusals.proofs.Passing.{passed}
use Rattle.text.proofs.NextLines.{line_end_at_lem, line_end_refused, line_of_whole, line_of_none}
use Rattle.text.proofs.cursor.Cursor.line.Goals as goal

pub slice_bounds-whole-end : goal.slice_bounds-whole-end
slice_bounds-whole-end c = let k =
    line_end_at_lem _ _
    (sym c.line_end.ensures ∙ c.in_ok-end.was) in
    sym (length-take-le _ _ (omega (arith, k.within)))

pub returns : goal.returns
returns c = c.whole.ensures ∙
    line_of_whole _ _ _ _
    (line_end_at_lem _ _
    (sym c.line_end.ensures ∙ c.in_ok-end.was))

pub returns-in_err-end : goal.returns-in_err-end
returns-in_err-end c = let no = line_end_refused _ _ (sym c.line_end.ensures ∙ c.in_err-end.was) in
    rw (passed _ c.from_residual.ensures.1) (line_of_none _ _ _ _ no.0 no.1)
