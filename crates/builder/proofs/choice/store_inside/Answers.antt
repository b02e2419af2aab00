-- `builder::choice::store_inside` meets its contract: a value that does not divide the box is not stored. Assumes
-- nothing.
use Rattle.facts.proofs.Bools.{held, failed}
use Rattle.builder.proofs.StoringEnds.{stored_out, stored_in}
use Rattle.builder.proofs.choice.store_inside.Goals as goal

pub returns-then-not-divides : goal.returns-then-not-divides
returns-then-not-divides c = stored_out _ _ _ _ (failed c.divides.ensures c.if-not-divides.true)

pub returns : goal.returns
returns c = stored_in _ _ _ _ (held c.divides.ensures c.if-not-divides.false)
    c.store.ensures
