-- `rules::matching::miss_in_rule` meets its contract: a field that disagrees ends it. The invariant: the fields before
-- this one agree, so the lowest of the rest is the lowest of all.
use native.Mathlib.Omega.{arith}
use mathlib.Core.Bool.{not}
use mathlib.Core.Path.{◌≡◌, sym, ap, ◌∙◌}
use Rattle.facts.proofs.Bools.{held, failed}
use Rattle.facts.proofs.Lowest.{lowest_first, lowest_hit, lowest_step, lowest_last}
use Rattle.fields.specs.Words.{field_count}
use Rattle.rules.specs.Matching.{agrees, first_miss}
use Rattle.rules.proofs.matching.miss_in_rule.Goals as goal

pub loop-f-init : goal.loop-f-init
loop-f-init c = lowest_first _ _

pub returns-then-not-field_matches : goal.returns-then-not-field_matches
unfolding first_miss agrees
returns-then-not-field_matches c = let said = rw c.field_of.ensures at c.field_matches.ensures in
    sym (lowest_hit c.loop-f.invariant c.loop-f-test.true (ap not (failed said c.if-not-field_matches.true)))

pub loop-f-preserved : goal.loop-f-preserved
unfolding agrees
loop-f-preserved c = let said = rw c.field_of.ensures at c.field_matches.ensures in
    lowest_step c.loop-f.invariant c.loop-f-test.true (ap not (held said c.if-not-field_matches.false))

pub returns : goal.returns
unfolding first_miss
returns c = let all : c.loop-f.f ≡ field_count = omega arith in
    sym (lowest_last c.loop-f.invariant c.loop-f-test.false ∙ all)
