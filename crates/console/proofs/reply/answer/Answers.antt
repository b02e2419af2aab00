-- `console::reply::answer` meets its contract: a refusal, or a hit with the numbers that were found. Assumes nothing.
use native.Mathlib.Omega.{arith}
use mathlib.Core.Path.{sym}
use lib.Seq.{length-take-le}
use Rattle.console.specs.Judged.{answer_by}
use Rattle.text.proofs.Said.{said_same}
use Rattle.console.proofs.Searching.{found_refused, found_fits, found_hit}
use Rattle.console.proofs.reply.answer.Goals as goal

pub slice_bounds-found-end : goal.slice_bounds-found-end
slice_bounds-found-end c = found_fits c.search.ensures c.in-Ok.is

pub slice_bounds-hit_line-end : goal.slice_bounds-hit_line-end
slice_bounds-hit_line-end c = sym (length-take-le _ _ (found_fits c.search.ensures c.in-Ok.is))

pub hit_line-requires : goal.hit_line-requires
hit_line-requires c = let s = c.search in
    let fits = found_fits s.ensures c.in-Ok.is in
    let size = length-take-le c.in-Ok.count s.new.out fits in
    omega (arith, size, fits, s.auto.out)

pub returns-in-Err : goal.returns-in-Err
unfolding answer_by
returns-in-Err c = said_same (found_refused c.search.ensures c.in-Err.is)
    c.refused_line.ensures.said

pub returns-in-Ok : goal.returns-in-Ok
unfolding answer_by
returns-in-Ok c = said_same (found_hit c.search.ensures c.in-Ok.is)
    c.hit_line.ensures
