-- `rules::check::rules_verdict` meets its contract: the number of words decides first, and then the rules in turn.
-- The invariant: the rules before this one are fine, so what is left decides. Assumes nothing.
use mathlib.Core.Path.{sym, ◌∙◌}
use Rattle.facts.proofs.Bools.{held, failed}
use Rattle.refusals.proofs.Turns.{head_first, head_step, head_stop, head_last}
use Rattle.rules.proofs.Lists.{not_whole, too_many, rules_decide, rule_refused, rule_fine}
use Rattle.rules.proofs.check.rules_verdict.Goals as goal

pub returns-then-rules-ne0 : goal.returns-then-rules-ne0
returns-then-rules-ne0 c = not_whole _ _ c.if-rules-ne0.true

pub returns-then-rules : goal.returns-then-rules
returns-then-rules c = too_many _ _ c.if-rules-ne0.false c.if-rules.true

pub loop-rule-init : goal.loop-rule-init
loop-rule-init c = head_first _ _

pub returns-then-not-good_to : goal.returns-then-not-good_to
returns-then-not-good_to c = let refused = rule_refused _ _ _ (failed c.good_to.ensures c.if-not-good_to.true) in
    sym
    (rules_decide _ _ c.if-rules-ne0.false c.if-rules.false ∙
    head_stop c.loop-rule.invariant c.loop-rule-test.true refused)

pub loop-rule-preserved : goal.loop-rule-preserved
loop-rule-preserved c = head_step c.loop-rule.invariant c.loop-rule-test.true
    (rule_fine _ _ _ (held c.good_to.ensures c.if-not-good_to.false))

pub returns : goal.returns
returns c = sym
    (rules_decide _ _ c.if-rules-ne0.false c.if-rules.false ∙ head_last c.loop-rule.invariant c.loop-rule-test.false)
