-- `trees::walk::walk_to` meets its contract. The invariant: so many cuts lie behind, and the walk from here on decides.
-- Numbers rise on the way. Assumes nothing.
use Prim.Native.Nat.{◌-◌, ◌^◌, ◌<◌}
use Rattle.trees.specs.Words.{node_count}
use Rattle.trees.proofs.WalkLoop.{Walking}
use Rattle.trees.proofs.walk.walk_to.Given as goal

abbrev pub invariant-loop-node : goal.invariant-loop-node
invariant-loop-node l = (l.at < 2 ^ 62) × Walking l.nodes l.header l.at l.visited

abbrev pub decreases-loop-node : goal.decreases-loop-node
decreases-loop-node l = node_count l.nodes - l.at
