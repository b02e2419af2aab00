-- `console::feed::feed_by` meets its contract: at each turn the lines before it are taken and replied to.
-- Assumes nothing.
use Prim.Native.Nat.{◌-◌}
use lib.ListN.{length}
use Rattle.console.specs.Judged.{answer_asked}
use Rattle.console.proofs.Feeding.{Reached}
use Rattle.console.proofs.feed.feed_by.Given as goal

abbrev pub invariant-loop-taken : goal.invariant-loop-taken
invariant-loop-taken l = Reached (answer_asked l.ask l.rules l.nodes l.pool) l.initial.gathering l.piece l.initial.out l.gathering l.filled l.taken l.out

abbrev pub decreases-loop-taken : goal.decreases-loop-taken
decreases-loop-taken l = length l.piece - l.taken
