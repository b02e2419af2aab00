-- `rule_file::read::rule_lines` meets its contract: at each turn the rules before it are read. Assumes nothing.
use Rattle.text.specs.Cursors.{cursor_at}
use Rattle.rule_file.proofs.Passes.{ReadSoFar}
use Rattle.rule_file.proofs.read.rule_lines.Given as goal

abbrev pub invariant-loop-i : goal.invariant-loop-i
invariant-loop-i l =
    ReadSoFar l.kind l.text l.initial.rules l.n (cursor_at l.initial.at l.initial.lines) l.i (cursor_at l.at l.lines)
    l.rules
