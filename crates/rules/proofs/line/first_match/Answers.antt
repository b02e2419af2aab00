-- `rules::line::first_match` meets its contract. The invariant: no rule before this one matches, so the first of the
-- rest is the first of all. Assumes nothing.
use native.Mathlib.Nat.{sub-zero}
use native.Mathlib.Omega.{arith}
use mathlib.Core.Path.{sym, ◌∙◌}
use Rattle.facts.proofs.Steps.{up_step, up_end}
use Rattle.facts.proofs.Seeking.{none_first, first_found, none_step, none_last}
use Rattle.rules.specs.Scan.{scan_count, scanned}
use Rattle.rules.proofs.Searches.{scan_count_at_most, scan_count_fits, found_first, found_none}
use Rattle.rules.proofs.line.first_match.Goals as goal

pub loop-r-init : goal.loop-r-init
loop-r-init c = rw sub-zero (none_first _ _)

pub matches-requires : goal.matches-requires
matches-requires c = (omega (arith, scan_count_at_most c.args.rules.now), c.requires)

pub overflow_cast-result : goal.overflow_cast-result
overflow_cast-result c = let e = c.scan_count-count.ensures in
    omega (arith, scan_count_fits c.args.rules.now)

pub returns-then-matches : goal.returns-then-matches
unfolding scanned
returns-then-matches c = let step = up_step (scan_count c.args.rules.now) c.loop-r.r (omega arith) in
    let found = sym c.matches.ensures ∙ c.if-matches.true in
    let e = c.scan_count-count.ensures in
    found_first _ _ (omega (arith, scan_count_fits c.args.rules.now)) (first_found c.loop-r.invariant step found)
    c.action_of.ensures

pub loop-r-preserved : goal.loop-r-preserved
loop-r-preserved c = let step = up_step (scan_count c.args.rules.now) c.loop-r.r (omega arith) in
    none_step c.loop-r.invariant step (sym c.matches.ensures ∙ c.if-matches.false)

pub returns : goal.returns
unfolding scanned
returns c = found_none _ _ (none_last c.loop-r.invariant (up_end _ _ (omega arith)))
