-- `rules::twins::twins_verdict` meets its contract. The invariant: the rules before this one are chained, none of them
-- has a twin before it, and the slots of the others stand behind. Assumes nothing.
use Prim.Native.Nat.{ℕ}
use native.Mathlib.Omega.{arith}
use lib.ListN.{length-replicate}
use Rattle.rules.specs.Words.{most_rules}
use Rattle.rules.proofs.Slots.{slot_below}
use Rattle.rules.proofs.Chaining.{apart_first, apart_slot, apart_place, apart_step, apart_stop}
use Rattle.rules.proofs.Chaining.{apart_last}
use Rattle.rules.proofs.twins.twins_verdict.Goals as goal

pub put_slots-requires : goal.put_slots-requires
put_slots-requires c = (c.requires, length-replicate {A = ℕ} most_rules 0)

pub loop-rule-init : goal.loop-rule-init
loop-rule-init c = apart_first _ _ c.put_slots.ensures

pub offset_bounds-latest-slot : goal.offset_bounds-latest-slot
offset_bounds-latest-slot c = let slot = apart_slot _ _ c.loop-rule.invariant c.wide-slot.ensures (omega arith) in
    omega (arith, slot_below _ _ slot)

pub bounds-latest-slot : goal.bounds-latest-slot
bounds-latest-slot c = let slot = apart_slot _ _ c.loop-rule.invariant c.wide-slot.ensures (omega arith) in slot_below _ _ slot

pub twin_in-earlier-requires : goal.twin_in-earlier-requires
twin_in-earlier-requires c = let inv = c.loop-rule.invariant in
    let slot = apart_slot _ _ inv c.wide-slot.ensures (omega arith) in
    (omega arith, inv.chained, apart_place _ _ inv slot (slot_below _ _ slot))

pub returns-then-earlier-rule : goal.returns-then-earlier-rule
returns-then-earlier-rule c = apart_stop _ _ c.loop-rule.invariant c.twin_in-earlier.ensures c.if-earlier-rule.true (omega arith)

pub offset_bounds-latest-slot-in-loop-rule : goal.offset_bounds-latest-slot-in-loop-rule
offset_bounds-latest-slot-in-loop-rule c = let slot = apart_slot _ _ c.loop-rule.invariant c.wide-slot.ensures (omega arith) in
    omega (arith, slot_below _ _ slot)

pub bounds-latest-slot-in-loop-rule : goal.bounds-latest-slot-in-loop-rule
bounds-latest-slot-in-loop-rule c = let slot = apart_slot _ _ c.loop-rule.invariant c.wide-slot.ensures (omega arith) in
    slot_below _ _ slot

pub loop-rule-preserved : goal.loop-rule-preserved
loop-rule-preserved c = let slot = apart_slot _ _ c.loop-rule.invariant c.wide-slot.ensures (omega arith) in
    apart_step _ _ c.loop-rule.invariant slot (slot_below _ _ slot) c.twin_in-earlier.ensures c.if-earlier-rule.false
    (omega arith) c.requires

pub returns : goal.returns
returns c = apart_last _ _ c.loop-rule.invariant (omega arith)
