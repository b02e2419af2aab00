-- `rules::line::store_matches` meets its contract. The invariant: what is stored, and what will be of the rules from
-- here on, are all that match. Assumes nothing.
use Prim.Native.Nat.{◌≤◌, ◌-◌}
use Rattle.facts.specs.Lists.{up_from}
use Rattle.facts.proofs.Filling.{Filled}
use Rattle.rules.specs.Matching.{matches}
use Rattle.rules.specs.Scan.{scan_count}
use Rattle.rules.proofs.line.store_matches.Given as goal

abbrev pub invariant-loop-r : goal.invariant-loop-r
invariant-loop-r l = (l.n ≤ l.r) ×
    Filled (matches l.rules l.header) (up_from 0 (scan_count l.rules)) (up_from l.r (scan_count l.rules - l.r)) l.initial.out l.out l.n
