-- `fields::bounds::left_part` meets its contract: a value that does not divide the box leaves it, and one that does
-- is the high end of the field. Assumes nothing.
use Prim.Native.Nat.{◌<◌}
use native.Mathlib.Omega.{arith}
use mathlib.Core.Path.{sym}
use Rattle.facts.proofs.Bools.{held, failed}
use Rattle.fields.specs.Cuts.{left_of}
use Rattle.fields.specs.Words.{field_count}
use Rattle.fields.proofs.Cuts.{divided_there, left_divided, left_whole}
use Rattle.fields.proofs.bounds.left_part.Goals as goal

-- the field that is divided is one of the box's
there : (c : goal.Else-not-divides) → c.args.field < field_count
there c =
    divided_there _ _ _ c.well_formed.0.1.0.1 (held c.divides.ensures c.if-not-divides.false)

pub returns-then-not-divides : goal.returns-then-not-divides
returns-then-not-divides c = sym (left_whole _ _ _ (failed c.divides.ensures c.if-not-divides.true))

pub offset_bounds-part-field : goal.offset_bounds-part-field
offset_bounds-part-field c = record { fits = omega (arith, there c) }

pub bounds-part-field : goal.bounds-part-field
bounds-part-field c = there c

pub returns : goal.returns
unfolding left_of
returns c = sym (left_divided _ _ _ (held c.divides.ensures c.if-not-divides.false))
