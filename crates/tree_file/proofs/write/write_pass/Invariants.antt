-- `tree_file::write::write_pass` meets its contract: at each turn the lines before it are put. Assumes nothing.
use Rattle.text.specs.Text.{unlines}
use Rattle.text.specs.Puts.{Put}
use Rattle.tree_file.specs.TreeLines.{node_lines}
use Rattle.tree_file.proofs.write.write_pass.Given as goal

abbrev pub invariant-loop-i : goal.invariant-loop-i
invariant-loop-i l = Put l.initial.text l.initial.at (unlines (node_lines l.nodes l.pool l.i)) l.text l.at
