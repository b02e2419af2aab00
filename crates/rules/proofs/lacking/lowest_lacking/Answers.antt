-- `rules::lacking::lowest_lacking` meets its contract. The invariant: no rule before this one is lacking, so the lowest
-- of the rest is the lowest of all.
use mathlib.Core.Path.{sym, ◌∙◌}
use borrow.Author.Tests.{lt-ltb, le-ltb}
use Rattle.facts.proofs.Lowest.{lowest_first, lowest_hit, lowest_step, lowest_last}
use Rattle.rules.specs.Lacking.{lacked, lowest_lacking}
use Rattle.rules.proofs.lacking.lowest_lacking.Goals as goal

pub loop-r-init : goal.loop-r-init
loop-r-init c = lowest_first _ _

pub returns-then-lacking : goal.returns-then-lacking
unfolding lacked lowest_lacking
returns-then-lacking c =
    let hit = lowest_hit c.loop-r.invariant c.loop-r-test.true (sym c.lacking.ensures ∙ c.if-lacking.true) in
    rw (hit, lt-ltb _ _ c.loop-r-test.true)

pub loop-r-preserved : goal.loop-r-preserved
loop-r-preserved c = lowest_step c.loop-r.invariant c.loop-r-test.true (sym c.lacking.ensures ∙ c.if-lacking.false)

pub returns : goal.returns
unfolding lacked lowest_lacking
returns c =
    let last = lowest_last c.loop-r.invariant c.loop-r-test.false in
    rw (last, le-ltb _ _ c.loop-r-test.false)
