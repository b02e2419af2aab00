-- `console::feed::feed_by` meets its contract: at each turn the lines before it are taken and replied to.
-- Assumes nothing.
use native.Mathlib.Omega.{arith}
use Rattle.console.proofs.Feeding.{reached_first, reached_length, reached_last}
use Rattle.console.proofs.Passing.{none_of_plain, line_ends}
use Rattle.console.proofs.LineByLine.{line_last, line_short, line_short_length, line_step}
use Rattle.console.proofs.feed.feed_by.Goals as goal

pub loop-taken-init : goal.loop-taken-init
loop-taken-init c = reached_first _ _ _ _

pub slice_bounds-with_bytes-count : goal.slice_bounds-with_bytes-count
slice_bounds-with_bytes-count c = (line_ends _ _ c.loop-taken-test.true c.line_end-end.ensures).from

pub slice_bounds-with_bytes-start : goal.slice_bounds-with_bytes-start
slice_bounds-with_bytes-start c = (line_ends _ _ c.loop-taken-test.true c.line_end-end.ensures).from

pub slice_bounds-with_bytes-end : goal.slice_bounds-with_bytes-end
slice_bounds-with_bytes-end c = (line_ends _ _ c.loop-taken-test.true c.line_end-end.ensures).within

pub with_bytes-line-requires : goal.with_bytes-line-requires
with_bytes-line-requires c = none_of_plain _ (line_ends _ _ c.loop-taken-test.true c.line_end-end.ensures).plain

pub returns-then-end-piece : goal.returns-then-end-piece
returns-then-end-piece c =
    let here = c.loop-taken.invariant in
    record {
      fed = line_last _ _ _ _ here c.loop-taken-test.true c.line_end-end.ensures c.with_bytes-line.ensures
          c.if-end-piece.true;
      bounded = (omega arith, omega (arith, here.fits, reached_length _ _ _ _ here));
    }

pub shape_of-out-in-Err : goal.shape_of-out-in-Err
shape_of-out-in-Err c = line_short_length _ _ _ _ c.loop-taken.invariant c.loop-taken-test.true c.line_end-end.ensures
    c.with_bytes-line.ensures c.if-end-piece.false c.reply_at.ensures c.in-Err.is

pub returns-in-Err : goal.returns-in-Err
returns-in-Err c =
    let here = c.loop-taken.invariant in
    let ends = line_ends _ _ c.loop-taken-test.true c.line_end-end.ensures in
    let size =
    line_short_length _ _ _ _ here c.loop-taken-test.true c.line_end-end.ensures
    c.with_bytes-line.ensures c.if-end-piece.false c.reply_at.ensures c.in-Err.is in
    record {
      fed = line_short _ _ _ _ here c.loop-taken-test.true c.line_end-end.ensures c.with_bytes-line.ensures
          c.if-end-piece.false c.reply_at.ensures c.in-Err.is;
      bounded = (ends.within, omega (arith, here.fits, size));
    }

pub overflow_add-filled : goal.overflow_add-filled
overflow_add-filled c = let next =
    line_step _ _ _ _ c.loop-taken.invariant c.loop-taken-test.true c.line_end-end.ensures
    c.with_bytes-line.ensures c.if-end-piece.false c.reply_at.ensures
    c.in-Ok.is in
    omega (arith, next.fits, c.well_formed)

pub loop-taken-smaller : goal.loop-taken-smaller
loop-taken-smaller c = omega (arith, (line_ends _ _ c.loop-taken-test.true c.line_end-end.ensures).from, (line_ends _ _ c.loop-taken-test.true c.line_end-end.ensures).within, c.if-end-piece.false)

pub loop-taken-preserved : goal.loop-taken-preserved
loop-taken-preserved c = rw c.next_line-gathering.ensures
    (line_step _ _ _ _ c.loop-taken.invariant c.loop-taken-test.true c.line_end-end.ensures
    c.with_bytes-line.ensures c.if-end-piece.false c.reply_at.ensures
    c.in-Ok.is)

pub returns : goal.returns
returns c =
    let here = c.loop-taken.invariant in
    record {
      fed = reached_last _ _ _ _ here c.loop-taken-test.false;
      bounded = (here.most, omega (arith, here.fits, reached_length _ _ _ _ here));
    }
