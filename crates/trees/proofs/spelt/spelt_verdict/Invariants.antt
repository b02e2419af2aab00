-- `trees::spelt::spelt_verdict` meets its contract: the nodes decide in turn, and then the counts. The invariant: the
-- nodes before this one are fine, and the sum is that of their counts, within the pool. Assumes nothing.
use Prim.Native.Nat.{◌≤◌}
use mathlib.Core.Path.{◌≡◌}
use lib.ListN.{length}
use Rattle.refusals.proofs.Turns.{Head}
use Rattle.trees.specs.Words.{node_count}
use Rattle.trees.specs.Spelt.{counts_below, node_verdict}
use Rattle.trees.proofs.spelt.spelt_verdict.Given as goal

abbrev pub invariant-loop-node : goal.invariant-loop-node
invariant-loop-node l =
    (l.sum ≡ counts_below l.nodes l.node) × (l.sum ≤ length l.pool) ×
    Head (node_count l.nodes) (node_verdict l.rules l.nodes l.pool) l.node
