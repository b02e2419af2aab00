-- `console::feed::whole_line` meets its contract: the length of the line decides. Assumes nothing.
use native.Mathlib.Omega.{arith}
use mathlib.Core.Path.{sym, ap, ◌∙◌}
use lib.Seq.{length-take-le}
use Rattle.console.specs.Lines.{refused_line}
use Rattle.console.specs.Gathered.{gathering}
use Rattle.text.proofs.Said.{said_same}
use Rattle.console.proofs.Gathering.{reply_over, reply_held}
use Rattle.console.proofs.feed.whole_line.Goals as goal

pub returns-then-count-gt-MOST_BYTES : goal.returns-then-count-gt-MOST_BYTES
returns-then-count-gt-MOST_BYTES c = let over = reply_over _ (gathering c.args.held c.args.count c.args.lines) c.if-count-gt-MOST_BYTES.true in
    said_same (ap refused_line c.wrong.ensures ∙ over) c.refused_line.ensures.said

pub slice_bounds-held-end : goal.slice_bounds-held-end
slice_bounds-held-end c = omega (arith, c.well_formed.1.1.1.1.0)

pub slice_bounds-reply_by-end : goal.slice_bounds-reply_by-end
slice_bounds-reply_by-end c = let good = c.well_formed in
    sym (length-take-le _ _ (omega (arith, good.1.1.1.1.0)))

pub returns : goal.returns
returns c = said_same (reply_held _ (gathering c.args.held c.args.count c.args.lines) c.if-count-gt-MOST_BYTES.false)
    c.reply_by.ensures
