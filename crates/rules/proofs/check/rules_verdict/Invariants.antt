-- `rules::check::rules_verdict` meets its contract: the number of words decides first, and then the rules in turn.
-- The invariant: the rules before this one are fine, so what is left decides.
use Rattle.refusals.proofs.Turns.{Head}
use Rattle.rules.specs.Words.{rule_count}
use Rattle.rules.specs.Good.{rule_verdict}
use Rattle.rules.proofs.check.rules_verdict.Given as goal

abbrev pub invariant-loop-rule : goal.invariant-loop-rule
invariant-loop-rule l = Head (rule_count l.rules) (rule_verdict l.most l.rules) l.rule
