-- `rules::twins::twin_in` meets its contract. The invariant: the rule at this place is in r's slot, and none from it on
-- has r's words. Assumes nothing.
use Rattle.rules.specs.Chains.{slot_of}
use Rattle.rules.proofs.Slots.{slot_of_same}
use Rattle.rules.proofs.Chains.{Sought}
use Rattle.rules.proofs.twins.twin_in.Given as goal

abbrev pub invariant-loop-next : goal.invariant-loop-next
invariant-loop-next l = Sought l.rules (slot_of l.rules) (slot_of_same l.rules) l.r l.next

abbrev pub decreases-loop-next : goal.decreases-loop-next
decreases-loop-next l = l.next
