-- `builder::root::count_up` meets its contract. The invariant: the words before i are counted up. Assumes nothing.
use native.Mathlib.Omega.{arith}
use mathlib.Core.Path.{refl}
use Rattle.builder.proofs.CountingUp.{counted_first, counted_step, counted_last}
use Rattle.builder.proofs.root.count_up.Goals as goal

pub loop-i-init : goal.loop-i-init
loop-i-init c = counted_first _

pub bounds-out-i : goal.bounds-out-i
bounds-out-i c = omega (arith, c.loop-i.invariant.size)

pub overflow_cast-out : goal.overflow_cast-out
overflow_cast-out c = omega (arith, c.loop-i.invariant.size)

pub loop-i-preserved : goal.loop-i-preserved
loop-i-preserved c = counted_step c.loop-i.invariant (omega (arith, c.loop-i.invariant.size)) refl

pub returns : goal.returns
returns c = counted_last c.loop-i.invariant (omega (arith, c.loop-i.invariant.size))
