-- `rules::twins::slot_of` meets its contract. The invariant: the words before this one are mixed.
use Rattle.rules.specs.Words.{word_of}
use Rattle.rules.proofs.Slots.{Mixed}
use Rattle.rules.proofs.twins.slot_of.Given as goal

abbrev pub invariant-loop-k : goal.invariant-loop-k
invariant-loop-k l = Mixed (word_of l.rules l.r) l.mix l.k
