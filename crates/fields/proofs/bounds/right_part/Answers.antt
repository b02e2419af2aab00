-- `fields::bounds::right_part` meets its contract: a value that does not divide the box leaves it, and the one after a
-- value that does is the low end of the field. Assumes nothing.
use Prim.Native.Nat.{◌<◌}
use native.Mathlib.Omega.{arith}
use mathlib.Core.Path.{sym}
use Rattle.facts.proofs.Bools.{held, failed}
use Rattle.fields.specs.Cuts.{right_of}
use Rattle.fields.specs.Words.{field_count}
use Rattle.fields.proofs.Cuts.{divides_iff, divided_there, right_divided, right_whole}
use Rattle.fields.proofs.bounds.right_part.Goals as goal
use Rattle.fields.proofs.bounds.right_part.Goals.{Else-not-divides}

-- the field that is divided is one of the box's
there : (c : goal.Else-not-divides) → c.args.field < field_count
there c =
    divided_there _ _ _ c.well_formed.0.1.0.1 (held c.divides.ensures c.if-not-divides.false)

pub returns-then-not-divides : goal.returns-then-not-divides
returns-then-not-divides c = sym (right_whole _ _ _ (failed c.divides.ensures c.if-not-divides.true))

pub offset_bounds-bounds-field : goal.offset_bounds-bounds-field
offset_bounds-bounds-field c = record { fits = omega (arith, there c) }

pub bounds-bounds-field : goal.bounds-bounds-field
bounds-bounds-field c = there c

pub after-requires : goal.after-requires
after-requires c = ((divides_iff _ _ _).0 (held c.divides.ensures c.if-not-divides.false)).1

pub offset_bounds-part-field : goal.offset_bounds-part-field
offset_bounds-part-field c = record { fits = omega (arith, there (goal.at.offset_bounds-part-field c).Else-not-divides) }

pub bounds-part-field : goal.bounds-part-field
bounds-part-field c = there (goal.at.bounds-part-field c).Else-not-divides

pub returns : goal.returns
unfolding right_of
returns c = rw c.after.ensures
    (sym (right_divided _ _ _ (held c.divides.ensures c.if-not-divides.false)))
