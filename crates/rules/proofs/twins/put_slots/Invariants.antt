-- `rules::twins::put_slots` meets its contract. The invariant: the slots of the rules before this one are stored.
-- Assumes nothing.
use Rattle.rules.specs.Chains.{slot_of}
use Rattle.rules.proofs.Slots.{SlotsBelow}
use Rattle.rules.proofs.twins.put_slots.Given as goal

abbrev pub invariant-loop-r : goal.invariant-loop-r
invariant-loop-r l = SlotsBelow (slot_of l.rules) l.before l.r
