-- `tree_file::read::node_lines` meets its contract: at each turn the nodes before it are stored, and the rest is left.
-- Assumes nothing.
use Rattle.text.specs.Cursors.{cursor_at}
use Rattle.tree_file.proofs.Passes.{ReadSoFar}
use Rattle.tree_file.proofs.read.node_lines.Given as goal

abbrev pub invariant-loop-i : goal.invariant-loop-i
invariant-loop-i l =
    ReadSoFar l.text l.counts (cursor_at l.initial.at l.initial.lines) l.initial.nodes l.initial.pool l.i l.filled
    (cursor_at l.at l.lines) l.nodes l.pool
