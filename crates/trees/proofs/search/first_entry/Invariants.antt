-- `trees::search::first_entry` meets its contract. The invariant: no entry before this one matches. Assumes nothing.
use lib.ListN.{drop}
use Rattle.rules.specs.Matching.{matches}
use Rattle.trees.proofs.Entries.{Looking}
use Rattle.trees.proofs.search.first_entry.Given as goal

abbrev pub invariant-loop-i : goal.invariant-loop-i
invariant-loop-i l = Looking (matches l.rules l.header) l.leaf (drop l.i l.leaf) l.i
