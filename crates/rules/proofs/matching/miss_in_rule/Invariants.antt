-- `rules::matching::miss_in_rule` meets its contract: a field that disagrees ends it. The invariant: the fields before
-- this one agree, so the lowest of the rest is the lowest of all.
use mathlib.Core.Bool.{not}
use Rattle.facts.proofs.Lowest.{LowestLeft}
use Rattle.fields.specs.Words.{field_count}
use Rattle.rules.specs.Matching.{agrees}
use Rattle.rules.proofs.matching.miss_in_rule.Given as goal

abbrev pub invariant-loop-f : goal.invariant-loop-f
invariant-loop-f l = LowestLeft field_count (λ g. not (agrees l.rule l.header 0 g)) l.f
