-- `builder::step::build_on` meets its contract: the list and the part are judged first, and then so many nodes more are
-- grown from the part. Assumes nothing.
use mathlib.Core.Path.{◌≡◌, sym, ap, ◌∙◌}
use Rattle.refusals.specs.Verdict.{Fine}
use Rattle.refusals.proofs.Passing.{passed}
use Rattle.tree_check.specs.PartCheck.{so_far_verdict}
use Rattle.builder.specs.Answers.{step_of}
use Rattle.builder.proofs.BuildAnswers.{step_refuses, part_good, on_built}
use Rattle.builder.proofs.step.build_on.Goals as goal
use Rattle.builder.proofs.step.build_on.Goals.{In_ok-part_check}

-- the part is fine there
fine :
    (c : goal.In_ok-part_check) →
    let a = c.args in so_far_verdict a.rules.now a.count a.part.now a.kept.now ≡ Fine
fine c = sym c.part_check.ensures ∙ c.in_ok-part_check.was

pub grow_list-requires : goal.grow_list-requires
grow_list-requires c = part_good _ _ _ _ (fine (goal.at.grow_list-requires c).In_ok-part_check)

pub returns-in_err-part_check : goal.returns-in_err-part_check
returns-in_err-part_check c = rw (passed _ c.from_residual.ensures.1)
    (step_refuses _ _ (sym c.part_check.ensures ∙ c.in_err-part_check.was))

pub returns-in_err-grown : goal.returns-in_err-grown
returns-in_err-grown c = rw (passed _ c.from_residual-in_err-grown.ensures.1)
    (on_built _ _ _ _ (fine (goal.at.returns-in_err-grown c).In_ok-part_check) _
    (rw c.end_of-end.ensures at c.grow_list.ensures) (sym (ap step_of c.in_err-grown.was)))

pub returns : goal.returns
returns c = on_built _ _ _ _ (fine (goal.at.returns c).In_ok-part_check) _
    (rw c.end_of-end.ensures at c.grow_list.ensures) (c.step_of.ensures ∙ sym (ap step_of c.in_ok-grown.was))
