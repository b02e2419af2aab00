-- `rule_file::write::write_pass` meets its contract: at each turn the lines before it are put. Assumes nothing.
use Rattle.text.specs.Text.{unlines}
use Rattle.text.specs.Puts.{Put}
use Rattle.rule_file.specs.ListText.{rule_lines}
use Rattle.rule_file.specs.RuleText.{format_of}
use Rattle.rule_file.proofs.write.write_pass.Given as goal

abbrev pub invariant-loop-i : goal.invariant-loop-i
invariant-loop-i l = Put l.initial.text l.initial.at (unlines (rule_lines (format_of l.kind) l.rules l.i)) l.text l.at
