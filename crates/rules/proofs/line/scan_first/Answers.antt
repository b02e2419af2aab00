-- `rules::line::scan_first` meets its contract: a refusal of the header is the answer's, and for a legal one the first
-- match is. Assumes nothing.
use mathlib.Core.Path.{refl, sym, ◌∙◌}
use Rattle.refusals.proofs.Promises.{says_refused, says_fine}
use Rattle.rules.proofs.Searches.{five_words}
use Rattle.refusals.proofs.Passing.{passed}
use Rattle.rules.proofs.line.scan_first.Goals as goal

pub first_match-requires : goal.first_match-requires
first_match-requires c = five_words _ (sym c.header_verdict.ensures ∙ c.in_ok-header_verdict.was)

pub returns-in_err-header_verdict : goal.returns-in_err-header_verdict
returns-in_err-header_verdict c = rw (passed _ c.from_residual.ensures.1)
    (says_refused (sym c.header_verdict.ensures ∙ c.in_err-header_verdict.was) refl)

pub returns : goal.returns
returns c = says_fine (sym c.header_verdict.ensures ∙ c.in_ok-header_verdict.was)
    c.first_match.ensures.is
