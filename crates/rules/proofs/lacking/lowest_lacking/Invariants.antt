-- `rules::lacking::lowest_lacking` meets its contract. The invariant: no rule before this one is lacking, so the lowest
-- of the rest is the lowest of all.
use Rattle.facts.proofs.Lowest.{LowestLeft}
use Rattle.rules.specs.Words.{rule_count}
use Rattle.rules.specs.Lacking.{lacking}
use Rattle.rules.proofs.lacking.lowest_lacking.Given as goal

abbrev pub invariant-loop-r : goal.invariant-loop-r
invariant-loop-r l = LowestLeft (rule_count l.rules) (lacking l.rules l.entries l.bounds) l.r
