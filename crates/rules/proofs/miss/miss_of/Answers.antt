-- `rules::miss::miss_of` meets its contract: where there is no such rule that is the answer, else the field is. Assumes
-- nothing.
use native.Mathlib.Omega.{arith}
use mathlib.Core.Path.{refl, ap}
use mathlib.Core.List.{[], ◌∷◌}
use borrow.Author.Tests.{ltb-true}
use Rattle.facts.proofs.Bools.{held, failed}
use Rattle.refusals.specs.Paper.{success}
use Rattle.refusals.proofs.Order.{holds_fine, fails_refused}
use Rattle.refusals.proofs.Promises.{says_refused, says_fine}
use Rattle.rules.specs.RuleMisses.{there_verdict}
use Rattle.rules.proofs.miss.miss_of.Goals as goal

pub returns-then-not-rule_there : goal.returns-then-not-rule_there
unfolding there_verdict
returns-then-not-rule_there c = says_refused (fails_refused _ (failed c.rule_there.ensures c.if-not-rule_there.true)) refl

pub first_miss-requires : goal.first_miss-requires
first_miss-requires c = (ltb-true _ _ (held c.rule_there.ensures c.if-not-rule_there.false), omega arith)

pub returns : goal.returns
unfolding there_verdict
returns c = says_fine (holds_fine _ (held c.rule_there.ensures c.if-not-rule_there.false))
    (ap (λ f. success (f ∷ [])) c.first_miss.ensures)
