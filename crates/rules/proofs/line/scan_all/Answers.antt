-- `rules::line::scan_all` meets its contract: the header decides first, and then the matches are listed if there is
-- room. Assumes nothing.
use mathlib.Core.Path.{sym, ◌∙◌}
use Rattle.rules.proofs.Searches.{five_words, scan_refused, scan_found}
use Rattle.refusals.proofs.Passing.{passed}
use Rattle.rules.proofs.line.scan_all.Goals as goal

pub list_matches-requires : goal.list_matches-requires
list_matches-requires c = five_words _ (sym c.header_verdict.ensures ∙ c.in_ok-header_verdict.was)

pub returns-in_err-header_verdict : goal.returns-in_err-header_verdict
returns-in_err-header_verdict c = rw (passed _ c.from_residual.ensures.1)
    (scan_refused _ _ _ (sym c.header_verdict.ensures ∙ c.in_err-header_verdict.was))

pub returns : goal.returns
returns c = scan_found _ _ (sym c.header_verdict.ensures ∙ c.in_ok-header_verdict.was)
    c.list_matches.ensures
