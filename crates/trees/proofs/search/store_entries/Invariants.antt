-- `trees::search::store_entries` meets its contract. The invariant: what is stored, and what will be of the entries
-- from here on, are all that match. Assumes nothing.
use Prim.Native.Nat.{◌≤◌}
use lib.ListN.{drop}
use Rattle.facts.proofs.Filling.{Filled}
use Rattle.rules.specs.Matching.{matches}
use Rattle.trees.proofs.search.store_entries.Given as goal

abbrev pub invariant-loop-number : goal.invariant-loop-number
invariant-loop-number l = (l.n ≤ l.number-index) ×
    Filled (matches l.rules l.header) l.leaf (drop l.number-index l.leaf) l.initial.out l.out l.n
