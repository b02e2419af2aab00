-- `builder::choice::store_ends` meets its contract. The invariant: the ends of the boxes before this one are stored,
-- two at most for each, and those of the others are left. Assumes nothing.
use native.Mathlib.Omega.{arith}
use Rattle.fields.specs.Cuts.{divides}
use Rattle.builder.specs.ChoiceSteps.{ends_of}
use Rattle.builder.proofs.Ends.{ends_at_most, ends_step, ends_none}
use Rattle.builder.proofs.StoringEnds.{stored_at_most}
use Rattle.builder.proofs.StoringEnds.{storing_step, storing_last}
use Rattle.builder.proofs.FieldValues.{met_under_at}
use Rattle.builder.proofs.choice.store_ends.Goals as goal

pub box_word-requires : goal.box_word-requires
box_word-requires c = let under = met_under_at c.requires.0 c.loop-number.number-index (omega arith) in
    (rw c.wide-r.ensures under, c.requires.1, omega arith)

pub box_word-requires-in-loop-number : goal.box_word-requires-in-loop-number
box_word-requires-in-loop-number c = let under = met_under_at c.requires.0 c.loop-number.number-index (omega arith) in
    (rw c.wide-r.ensures under, c.requires.1, omega arith)

pub loop-number-preserved : goal.loop-number-preserved
loop-number-preserved c = let a = c.args in
    let low = c.box_word.result in
    let high = c.box_word-in-loop-number.result in
    let test = divides a.bounds a.f in
    let step =
    ends_step a.boxes.now a.f test a.met.now c.loop-number.number-index (omega arith) c.wide-r.ensures
    c.box_word.ensures c.box_word-in-loop-number.ensures in (
      omega (arith, ends_at_most low high, stored_at_most test (ends_of low high) c.store_both-n.ensures),
      storing_step c.loop-number.invariant.1 step c.store_both-n.ensures,
    )

pub returns : goal.returns
returns c = let a = c.args in
    storing_last c.loop-number.invariant.1
    (ends_none a.boxes.now a.f _ a.met.now c.loop-number.number-index (omega arith))
