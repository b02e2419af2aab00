-- `builder::choice::fresh_choice` meets its contract: the tests are those of `fresh_choice`, in its order. Assumes
-- nothing.
use native.Mathlib.Omega.{arith}
use mathlib.Core.Path.{ap}
use lib.ListN.{length}
use Rattle.builder.proofs.Choices.{fresh_at_end, fresh_few, found_none, found_some}
use Rattle.builder.proofs.choice.fresh_choice.Goals as goal

pub returns-then-cuts-eq0 : goal.returns-then-cuts-eq0
returns-then-cuts-eq0 c = fresh_at_end _ _ _ _ c.if-cuts-eq0.true

pub returns-then-met-le-MOST_IN_LEAF : goal.returns-then-met-le-MOST_IN_LEAF
returns-then-met-le-MOST_IN_LEAF c = fresh_few _ _ _ _ (omega (arith, ap length c.requires.is))

pub returns-then-most-eq0 : goal.returns-then-most-eq0
returns-then-most-eq0 c = found_none _ _ _ _ (omega (arith, ap length c.requires.is))
    c.most_values-most.ensures c.if-most-eq0.true

pub returns : goal.returns
returns c = found_some _ _ _ _ (omega (arith, ap length c.requires.is))
    c.most_values-most.ensures c.if-cuts-eq0.false c.if-most-eq0.false
