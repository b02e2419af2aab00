-- `rules::words::action_of` meets its contract: a rule that is not wholly lent has action 0. Assumes nothing.
use native.Mathlib.Omega.{arith}
use borrow.Author.Tests.{ltb-true, ltb-false}
use Rattle.facts.proofs.Bools.{held, failed}
use Rattle.rules.proofs.Actions.{no_action}
use Rattle.rules.proofs.words.action_of.Goals as goal

pub returns-then-not-rule_there : goal.returns-then-not-rule_there
returns-then-not-rule_there c = let asked = c.args in
    no_action asked.rules.now asked.r
    (ltb-false _ _ (failed c.rule_there.ensures c.if-not-rule_there.true))

pub word_of-requires : goal.word_of-requires
word_of-requires c = (ltb-true _ _ (held c.rule_there.ensures c.if-not-rule_there.false), omega arith)
