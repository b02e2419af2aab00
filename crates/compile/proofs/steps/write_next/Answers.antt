-- `compile::steps::write_next` meets its contract: the part that is gone on from is that of the file. Assumes nothing.
use native.Mathlib.Omega.{arith}
use mathlib.Core.Path.{sym}
use lib.Seq.{length-take-le}
use Rattle.policy.proofs.PartGoing.{goes_words, goes_refused}
use Rattle.compile.proofs.Asked.{next_on, next_anew}
use Rattle.compile.proofs.steps.write_next.Goals as goal

pub slice_bounds-nodes-end : goal.slice_bounds-nodes-end
slice_bounds-nodes-end c =
    (goes_words _ _ c.take_part-begun.ensures c.goes_on.ensures c.in-Ok.is).2

pub slice_bounds-write_on-end : goal.slice_bounds-write_on-end
slice_bounds-write_on-end c =
    sym (length-take-le _ _ (goes_words _ _ c.take_part-begun.ensures c.goes_on.ensures c.in-Ok.is).2)

pub slice_bounds-pool-end : goal.slice_bounds-pool-end
slice_bounds-pool-end c =
    (goes_words _ _ c.take_part-begun.ensures c.goes_on.ensures c.in-Ok.is).3

pub slice_bounds-write_on-end-in-Ok : goal.slice_bounds-write_on-end-in-Ok
slice_bounds-write_on-end-in-Ok c =
    sym (length-take-le _ _ (goes_words _ _ c.take_part-begun.ensures c.goes_on.ensures c.in-Ok.is).3)

pub returns-in-Err : goal.returns-in-Err
returns-in-Err c =
    next_anew _ (omega arith) c.load_part-file.ensures (goes_refused _ _ c.take_part-begun.ensures (omega arith) (omega arith) c.goes_on.ensures c.in-Err.is) c.begin_anew.ensures

pub returns-in-Ok : goal.returns-in-Ok
returns-in-Ok c =
    let w = goes_words _ _ c.take_part-begun.ensures c.goes_on.ensures c.in-Ok.is in next_on _ (omega arith) c.load_part-file.ensures w.0 w.1 c.write_on.ensures
