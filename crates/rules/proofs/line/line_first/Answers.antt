-- `rules::line::line_first` meets its contract: the list decides first, and then it is scanned. Assumes nothing.
use mathlib.Core.Path.{refl, sym, ◌∙◌}
use Rattle.refusals.proofs.Order.{then_refused}
use Rattle.refusals.proofs.Promises.{says_refused}
use Rattle.rules.proofs.Searches.{first_scanned}
use Rattle.refusals.proofs.Passing.{passed}
use Rattle.rules.proofs.line.line_first.Goals as goal

pub returns-in_err-list_verdict : goal.returns-in_err-list_verdict
returns-in_err-list_verdict c = let refused = sym c.list_verdict.ensures ∙ c.in_err-list_verdict.was in
    rw (passed _ c.from_residual.ensures.1) (says_refused (then_refused _ refused) refl)

pub returns : goal.returns
returns c = first_scanned _ _ (sym c.list_verdict.ensures ∙ c.in_ok-list_verdict.was)
    c.scan_first.ensures
