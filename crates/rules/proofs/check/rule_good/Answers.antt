-- `rules::check::rule_good` meets its contract: a rule that is not wholly lent is not good.
use mathlib.Core.Path.{◌∙◌}
use borrow.Author.Tests.{ltb-true}
use Rattle.facts.proofs.Bools.{held, failed}
use Rattle.rules.proofs.AnyWords.{not_there_not_good, good_decides}
use Rattle.rules.proofs.check.rule_good.Goals as goal

pub good_to-requires : goal.good_to-requires
good_to-requires c = ltb-true _ _ (held c.rule_there.ensures c.if-rule_there.true)

pub returns-then-rule_there : goal.returns-then-rule_there
returns-then-rule_there c = c.good_to.ensures ∙ good_decides _ _ (held c.rule_there.ensures c.if-rule_there.true)

pub returns-else-rule_there : goal.returns-else-rule_there
returns-else-rule_there c = let missing = c.if-rule_there.false in
    missing ∙ not_there_not_good _ _ (failed c.rule_there.ensures missing)
