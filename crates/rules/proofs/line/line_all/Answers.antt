-- `rules::line::line_all` meets its contract: the list decides first, and then it is scanned. Assumes nothing.
use mathlib.Core.Path.{sym, ◌∙◌}
use Rattle.rules.proofs.Searches.{all_refused, all_scanned}
use Rattle.refusals.proofs.Passing.{passed}
use Rattle.rules.proofs.line.line_all.Goals as goal

pub returns-in_err-list_verdict : goal.returns-in_err-list_verdict
returns-in_err-list_verdict c = rw (passed _ c.from_residual.ensures.1)
    (all_refused _ _ _ (sym c.list_verdict.ensures ∙ c.in_err-list_verdict.was))

pub returns : goal.returns
returns c = all_scanned _ _ (sym c.list_verdict.ensures ∙ c.in_ok-list_verdict.was)
    c.scan_all.ensures
