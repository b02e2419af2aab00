-- `rules::miss::rule_misses` meets its contract: the list decides first, then the header, and then the rule and its
-- fields do. Assumes nothing.
use mathlib.Core.Path.{refl, sym, ◌∙◌}
use Rattle.refusals.proofs.Order.{then_refused}
use Rattle.refusals.proofs.Passing.{passed}
use Rattle.refusals.proofs.Promises.{says_refused, says_after}
use Rattle.rules.specs.RuleMisses.{miss_verdict}
use Rattle.rules.proofs.Searches.{five_words}
use Rattle.rules.proofs.miss.rule_misses.Goals as goal

pub miss_of-requires : goal.miss_of-requires
miss_of-requires c = five_words _ (sym c.header_verdict.ensures ∙ c.in_ok-header_verdict.was)

pub returns-in_err-list_verdict : goal.returns-in_err-list_verdict
unfolding miss_verdict
returns-in_err-list_verdict c = let refused = sym c.list_verdict.ensures ∙ c.in_err-list_verdict.was in
    rw (passed _ c.from_residual.ensures.1) (says_refused (then_refused _ refused) refl)

pub returns-in_err-header_verdict : goal.returns-in_err-header_verdict
unfolding miss_verdict
returns-in_err-header_verdict c = let refused = sym c.header_verdict.ensures ∙ c.in_err-header_verdict.was in
    rw (passed _ c.from_residual-in_err-header_verdict.ensures.1)
    (says_after (sym c.list_verdict.ensures ∙ c.in_ok-list_verdict.was)
    (says_refused (then_refused _ refused) refl))

pub returns : goal.returns
unfolding miss_verdict
returns c = says_after (sym c.list_verdict.ensures ∙ c.in_ok-list_verdict.was)
    (says_after (sym c.header_verdict.ensures ∙ c.in_ok-header_verdict.was)
    c.miss_of.ensures)
