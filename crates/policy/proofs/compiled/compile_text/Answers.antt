-- `policy::compiled::compile_text` meets its contract: what the build refuses is refused, and what it builds can be
-- written. Assumes nothing.
use Rattle.refusals.proofs.Passing.{passed}
use native.Mathlib.Omega.{arith}
use mathlib.Core.Path.{sym}
use lib.Seq.{length-take-le}
use Rattle.policy.proofs.Compiling.{text_refused, nodes_stand, pool_stands, text_written}
use Rattle.policy.proofs.compiled.compile_text.Goals as goal

pub overflow_mul-n : goal.overflow_mul-n
overflow_mul-n c = let stand = nodes_stand _ c.build.ensures (omega arith) (omega arith) c.in_ok-built.was in
    omega (arith, stand.1)

pub slice_bounds-nodes-end : goal.slice_bounds-nodes-end
slice_bounds-nodes-end c = (nodes_stand _ c.build.ensures (omega arith) (omega arith) c.in_ok-built.was).1

pub slice_bounds-tree_write-end : goal.slice_bounds-tree_write-end
slice_bounds-tree_write-end c = let stand = nodes_stand _ c.build.ensures (omega arith) (omega arith) c.in_ok-built.was in
    sym (length-take-le _ _ stand.1)

pub slice_bounds-pool-end : goal.slice_bounds-pool-end
slice_bounds-pool-end c = (pool_stands _ c.build.ensures (omega arith) (omega arith) c.in_ok-built.was).1

pub slice_bounds-tree_write-end-2 : goal.slice_bounds-tree_write-end-2
slice_bounds-tree_write-end-2 c = let stands = pool_stands _ c.build.ensures (omega arith) (omega arith) c.in_ok-built.was in
    sym (length-take-le _ _ stands.1)

pub returns-in_err-built : goal.returns-in_err-built
returns-in_err-built c = rw (passed _ c.from_residual.ensures.1)
    (text_refused _ c.build.ensures (omega arith) (omega arith) _ c.in_err-built.was)

pub returns : goal.returns
returns c = text_written _ c.build.ensures (omega arith) (omega arith) c.in_ok-built.was c.tree_write.ensures
