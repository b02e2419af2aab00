-- `rules::twins::put_slots` meets its contract. The invariant: the slots of the rules before this one are stored.
-- Assumes nothing.
use native.Mathlib.Omega.{arith}
use mathlib.Core.Path.{sym, ◌∙◌}
use Rattle.rules.proofs.Slots.{slot_below, slots_first, slots_step, slots_last}
use Rattle.rules.proofs.twins.put_slots.Goals as goal

pub loop-r-init : goal.loop-r-init
loop-r-init c = slots_first _ _ c.requires.1

pub overflow_cast-before : goal.overflow_cast-before
overflow_cast-before c = omega (arith, slot_below _ _ c.slot_of.ensures)

pub bounds-before-r : goal.bounds-before-r
bounds-before-r c = omega (arith, c.loop-r.invariant.room, c.requires.0)

pub loop-r-preserved : goal.loop-r-preserved
loop-r-preserved c = let few = c.requires.0 in
    slots_step _ c.loop-r.invariant (omega arith) c.slot_of.ensures

pub shape_of-before : goal.shape_of-before
shape_of-before c = c.loop-r.invariant.room ∙ sym c.requires.1

pub returns : goal.returns
returns c = slots_last _ c.loop-r.invariant (omega arith)
