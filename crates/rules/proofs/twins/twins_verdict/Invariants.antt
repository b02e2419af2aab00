-- `rules::twins::twins_verdict` meets its contract. The invariant: the rules before this one are chained, none of them
-- has a twin before it, and the slots of the others stand behind. Assumes nothing.
use Rattle.rules.specs.Chains.{slot_of}
use Rattle.rules.proofs.Chaining.{AllApart}
use Rattle.rules.proofs.twins.twins_verdict.Given as goal

abbrev pub invariant-loop-rule : goal.invariant-loop-rule
invariant-loop-rule l = AllApart l.rules (slot_of l.rules) l.latest l.before l.rule
