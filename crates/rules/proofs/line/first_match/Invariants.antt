-- `rules::line::first_match` meets its contract. The invariant: no rule before this one matches, so the first of the
-- rest is the first of all. Assumes nothing.
use Prim.Native.Nat.{◌-◌}
use Rattle.facts.specs.Lists.{up_from}
use Rattle.facts.proofs.Seeking.{NoneYet}
use Rattle.rules.specs.Matching.{matches}
use Rattle.rules.specs.Scan.{scan_count}
use Rattle.rules.proofs.line.first_match.Given as goal

abbrev pub invariant-loop-r : goal.invariant-loop-r
invariant-loop-r l = NoneYet (matches l.rules l.header) (up_from 0 (scan_count l.rules)) (up_from l.r (scan_count l.rules - l.r))
