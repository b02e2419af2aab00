-- `text::cursor::Cursor::line_end` meets its contract: at each turn no newline stands before it. Assumes nothing.
use Rattle.std.specs.Prelude.{Ok}
use mathlib.Core.Path.{sym, ap}
use Rattle.text.specs.Cursors.{line_end_at}
use Rattle.text.proofs.Scanning.{end_here, end_step, end_none}
use Rattle.text.proofs.cursor.Cursor.line_end.Goals as goal

pub returns-then-text-end-eq-NEWLINE : goal.returns-then-text-end-eq-NEWLINE
unfolding line_end_at
returns-then-text-end-eq-NEWLINE c = let k = c.loop-end.invariant in
    rw (end_here k c.loop-end-test.true c.if-text-end-eq-NEWLINE.true) (ap Ok (sym k.size))

pub loop-end-preserved : goal.loop-end-preserved
loop-end-preserved c = end_step c.loop-end.invariant c.loop-end-test.true c.if-text-end-eq-NEWLINE.false

pub returns : goal.returns
unfolding line_end_at
returns c = rw (end_none c.loop-end.invariant c.loop-end-test.false)
