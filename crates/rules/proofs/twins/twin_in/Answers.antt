-- `rules::twins::twin_in` meets its contract. The invariant: the rule at this place is in r's slot, and none from it on
-- has r's words. Assumes nothing.
use native.Mathlib.Omega.{arith}
use mathlib.Core.Path.{sym, ◌∙◌}
use Rattle.rules.proofs.Chains.{sought_first, sought_falls, sought_step, sought_hit, sought_last}
use Rattle.rules.proofs.twins.twin_in.Goals as goal

pub loop-next-init : goal.loop-next-init
loop-next-init c = sought_first _ _ _ (c.wide-next.ensures ∙ c.requires.2)

pub same_words-requires : goal.same_words-requires
same_words-requires c = (omega (arith, c.loop-next.invariant.within, c.requires.0), c.requires.0)

pub returns-then-same_words : goal.returns-then-same_words
returns-then-same_words c = sought_hit _ _ _ c.loop-next.invariant c.requires.1 c.loop-next-test.true
    (sym c.same_words.ensures ∙ c.if-same_words.true)

pub offset_bounds-before-q : goal.offset_bounds-before-q
offset_bounds-before-q c = omega (arith, c.loop-next.invariant.within, c.requires.0)

pub bounds-before-q : goal.bounds-before-q
bounds-before-q c = omega (arith, c.loop-next.invariant.within, c.requires.1.room)

pub loop-next-smaller : goal.loop-next-smaller
loop-next-smaller c = sought_falls _ _ _ c.loop-next.invariant c.requires.1
    c.loop-next-test.true c.wide-next-in-loop-next.ensures

pub loop-next-preserved : goal.loop-next-preserved
loop-next-preserved c = sought_step _ _ _ c.loop-next.invariant c.requires.1
    c.loop-next-test.true
    (sym c.same_words.ensures ∙ c.if-same_words.false) c.wide-next-in-loop-next.ensures

pub returns : goal.returns
returns c = sought_last _ _ _ c.loop-next.invariant c.requires.1 c.loop-next-test.false
