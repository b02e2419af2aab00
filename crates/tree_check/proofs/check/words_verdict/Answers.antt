-- `tree_check::check::words_verdict` meets its contract: the list and the sizes decide first, then the words.
-- Assumes nothing.
use Rattle.refusals.proofs.Passing.{passed}
use mathlib.Core.Path.{sym, ◌∙◌}
use Rattle.tree_check.proofs.Checks.{early_refused, spelt_decides}
use Rattle.tree_check.proofs.check.words_verdict.Goals as goal

pub returns-in_err-list_and_sizes : goal.returns-in_err-list_and_sizes
returns-in_err-list_and_sizes c = rw (passed _ c.from_residual.ensures.1)
    (early_refused _ _ _ (sym c.list_and_sizes.ensures ∙ c.in_err-list_and_sizes.was))

pub returns : goal.returns
returns c = c.spelt_verdict.ensures ∙
    spelt_decides _ _ _ (sym c.list_and_sizes.ensures ∙ c.in_ok-list_and_sizes.was)
