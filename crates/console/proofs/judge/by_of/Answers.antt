-- `console::judge::by_of` meets its contract: the tree, or the list as it is judged. Assumes nothing.
use mathlib.Core.Path.{sym, ◌∙◌}
use Rattle.refusals.proofs.Passing.{passed}
use Rattle.console.proofs.Judging.{tree_serves, list_serves}
use Rattle.console.proofs.judge.by_of.Goals as goal

pub returns-then-accepted : goal.returns-then-accepted
returns-then-accepted c = tree_serves _ c.if-accepted.true

pub returns-in_err-list_verdict : goal.returns-in_err-list_verdict
returns-in_err-list_verdict c = rw (passed _ c.from_residual.ensures.1)
    (list_serves _ c.if-accepted.false (sym c.list_verdict.ensures ∙ c.in_err-list_verdict.was))

pub returns : goal.returns
returns c = list_serves _ c.if-accepted.false (sym c.list_verdict.ensures ∙ c.in_ok-list_verdict.was)
