-- `builder::step::build_some` meets its contract: the list is judged first, and then so many nodes of its tree are
-- grown. Assumes nothing.
use mathlib.Core.Path.{sym, ap, ◌∙◌}
use Rattle.refusals.proofs.Passing.{passed}
use Rattle.builder.specs.Answers.{step_of}
use Rattle.builder.proofs.Rooting.{none_spelt}
use Rattle.builder.proofs.BuildAnswers.{step_refuses, some_built}
use Rattle.builder.proofs.step.build_some.Goals as goal

pub grow_list-requires : goal.grow_list-requires
grow_list-requires c = (sym c.list_verdict.ensures ∙ c.in_ok-list_verdict.was, none_spelt _)

pub returns-in_err-list_verdict : goal.returns-in_err-list_verdict
returns-in_err-list_verdict c = rw (passed _ c.from_residual.ensures.1)
    (step_refuses _ _ (sym c.list_verdict.ensures ∙ c.in_err-list_verdict.was))

pub returns-in_err-grown : goal.returns-in_err-grown
returns-in_err-grown c = rw (passed _ c.from_residual-in_err-grown.ensures.1)
    (some_built _ _ (sym c.list_verdict.ensures ∙ c.in_ok-list_verdict.was)
    (rw c.end_of-end.ensures at c.grow_list.ensures) (sym (ap step_of c.in_err-grown.was)))

pub returns : goal.returns
returns c = some_built _ _ (sym c.list_verdict.ensures ∙ c.in_ok-list_verdict.was)
    (rw c.end_of-end.ensures at c.grow_list.ensures) (c.step_of.ensures ∙ sym (ap step_of c.in_ok-grown.was))
