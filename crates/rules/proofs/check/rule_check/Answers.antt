-- `rules::check::rule_check` meets its contract: the list's verdict is the answer's. Assumes nothing.
use mathlib.Core.Path.{refl, sym, ◌∙◌}
use Rattle.refusals.proofs.Promises.{says_refused, says_fine}
use Rattle.refusals.proofs.Passing.{passed}
use Rattle.rules.proofs.check.rule_check.Goals as goal

pub returns-in_err-list_verdict : goal.returns-in_err-list_verdict
returns-in_err-list_verdict c = rw (passed _ c.from_residual.ensures.1)
    (says_refused (sym c.list_verdict.ensures ∙ c.in_err-list_verdict.was) refl)

pub returns : goal.returns
returns c = says_fine (sym c.list_verdict.ensures ∙ c.in_ok-list_verdict.was) refl
