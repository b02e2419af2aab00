-- `builder::build::build` meets its contract: the list is judged first, and then its tree is grown to its end. Assumes
-- nothing.
use mathlib.Core.Path.{sym, ap, ◌∙◌}
use Rattle.refusals.proofs.Passing.{passed}
use Rattle.builder.specs.Answers.{built_of}
use Rattle.builder.proofs.Rooting.{none_spelt}
use Rattle.builder.proofs.BuildAnswers.{list_refuses, list_built}
use Rattle.builder.proofs.build.build.Goals as goal

pub grow_list-requires : goal.grow_list-requires
grow_list-requires c = (sym c.list_verdict.ensures ∙ c.in_ok-list_verdict.was, none_spelt _)

pub returns-in_err-list_verdict : goal.returns-in_err-list_verdict
returns-in_err-list_verdict c = rw (passed _ c.from_residual.ensures.1)
    (list_refuses _ (sym c.list_verdict.ensures ∙ c.in_err-list_verdict.was))

pub returns-in_err-grown : goal.returns-in_err-grown
returns-in_err-grown c = rw (passed _ c.from_residual-in_err-grown.ensures.1)
    (list_built _ (sym c.list_verdict.ensures ∙ c.in_ok-list_verdict.was) c.grow_list.ensures
    (sym (ap built_of c.in_err-grown.was)))

pub returns : goal.returns
returns c = list_built _ (sym c.list_verdict.ensures ∙ c.in_ok-list_verdict.was) c.grow_list.ensures
    (sym (ap built_of c.in_ok-grown.was))
