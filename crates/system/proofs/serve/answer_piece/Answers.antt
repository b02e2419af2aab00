-- `system::serve::answer_piece` meets its contract: each turn of the loop takes some bytes of the piece, has their
-- replies written, and goes on from the line that they leave gathered. Assumes nothing.
use native.Mathlib.Omega.{arith}
use Rattle.ledger.proofs.Entering.{enters_none, enters_as, enters_then}
use Rattle.system.proofs.Turning.{head_first, head_last, head_unfit}
use Rattle.system.proofs.Turning.{head_step, head_unwritten}
use Rattle.system.proofs.serve.answer_piece.Goals as goal

pub loop-at-init : goal.loop-at-init
loop-at-init c = (enters_none (head_first _ _ _), omega arith)

pub returns-then-fed-eq0 : goal.returns-then-fed-eq0
returns-then-fed-eq0 c = enters_as c.loop-at.invariant.0
    (λ es t.
    head_unfit t c.feed_asked-fed.ensures.fed (omega arith) (omega arith)
    c.if-fed-eq0.true)

pub returns-then-not-say : goal.returns-then-not-say
returns-then-not-say c = let loop = c.loop-at in
    let feed-asked = c.feed_asked-fed in
    let say = c.say in
    enters_then loop.invariant.0 say.ensures (λ es ws t h. head_unwritten t feed-asked.ensures.fed
    feed-asked.ensures.bounded.0
    (c.if-not-say.true) ws h)

pub loop-at-preserved : goal.loop-at-preserved
loop-at-preserved c = let loop = c.loop-at in
    let feed-asked = c.feed_asked-fed in
    let say = c.say in
    let if2 = c.if-not-say in (
      enters_then loop.invariant.0 say.ensures (λ es ws t h. head_step t feed-asked.ensures.fed
          feed-asked.ensures.bounded.0
          (if2.false) ws h),
      omega arith,
    )

pub returns : goal.returns
returns c = enters_as c.loop-at.invariant.0 (head_last (omega arith))
