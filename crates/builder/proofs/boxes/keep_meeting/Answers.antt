-- `builder::boxes::keep_meeting` meets its contract. The invariant: what is stored, and what will be of the numbers
-- from here on, are all whose boxes meet the bounds. Assumes nothing.
use native.Mathlib.Omega.{arith}
use mathlib.Core.Path.{sym, ◌∙◌}
use Rattle.facts.proofs.Steps.{drop_step, drop_end}
use Rattle.facts.proofs.Under.{all_under_iff_at}
use Rattle.facts.proofs.Filling.{filled_in, filled_out, filled_last}
use Rattle.builder.proofs.boxes.keep_meeting.Goals as goal
use Rattle.builder.proofs.boxes.keep_meeting.Goals.{then-box_meets, else-box_meets}

pub box_meets-requires : goal.box_meets-requires
box_meets-requires c = rw c.wide.ensures ((all_under_iff_at _ c.args.above.now).0 c.requires c.loop-number.number-index (omega arith))

pub loop-number-preserved : goal.loop-number-preserved
loop-number-preserved c = let above = c.args.above.now in
    let step = drop_step above c.loop-number.number-index (omega arith) in
    let said = sym (rw c.wide.ensures at c.box_meets.ensures) in
    elim c.if-box_meets.branch [
      | then-box_meets w ↦ (
        omega (arith, w.n-is),
        rw (w.out-is, w.n-is) (filled_in c.loop-number.invariant.1 step (said ∙ w.if-box_meets.true) w.store.ensures),
      )
      | else-box_meets w ↦ (
        omega (arith, w.n-is),
        rw (w.out-is, w.n-is) (filled_out c.loop-number.invariant.1 step (said ∙ w.if-box_meets.false)),
      )
    ]

pub returns : goal.returns
returns c = let above = c.args.above.now in
    filled_last c.loop-number.invariant.1 (drop_end above c.loop-number.number-index (omega arith))
