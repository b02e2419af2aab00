-- `builder::choice::store_both` meets its contract: the high is stored first, and a low of 0 ends it. Assumes nothing.
use native.Mathlib.Omega.{arith}
use mathlib.Core.List.{[], ◌∷◌}
use Rattle.fields.specs.Cuts.{divides}
use Rattle.builder.proofs.StoringEnds.{stored_at_most, stored_one_end, stored_both_ends}
use Rattle.builder.proofs.choice.store_both.Goals as goal

pub returns-then-low-eq0 : goal.returns-then-low-eq0
returns-then-low-eq0 c = stored_one_end _ _ _ c.store_inside-m.ensures c.if-low-eq0.true

pub store_inside-requires : goal.store_inside-requires
store_inside-requires c = let a = c.args in
    omega (arith, stored_at_most (divides a.bounds a.f) (a.high ∷ []) c.store_inside-m.ensures)

pub returns : goal.returns
returns c = stored_both_ends _ _ _ c.store_inside-m.ensures c.if-low-eq0.false
    c.store_inside.ensures
