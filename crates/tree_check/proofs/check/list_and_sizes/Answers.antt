-- `tree_check::check::list_and_sizes` meets its contract: the list decides first. Assumes nothing.
use Rattle.refusals.proofs.Passing.{passed}
use mathlib.Core.Path.{sym, ◌∙◌}
use Rattle.refusals.proofs.Order.{then_fine, then_refused}
use Rattle.tree_check.proofs.check.list_and_sizes.Goals as goal

pub returns-in_err-list_verdict : goal.returns-in_err-list_verdict
returns-in_err-list_verdict c = rw (passed _ c.from_residual.ensures.1)
    (sym (then_refused _ (sym c.list_verdict.ensures ∙ c.in_err-list_verdict.was)))

pub returns : goal.returns
returns c = c.size_verdict.ensures ∙
    sym (then_fine _ (sym c.list_verdict.ensures ∙ c.in_ok-list_verdict.was))
