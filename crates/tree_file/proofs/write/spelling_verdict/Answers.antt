-- `tree_file::write::spelling_verdict` meets its contract: the tests are those of `spelling_verdict`, in its order.
-- Assumes nothing.
use mathlib.Core.Path.{sym, ◌∙◌}
use Rattle.refusals.proofs.Passing.{passed}
use Rattle.tree_file.proofs.SpellingVerdict.{many_rules, sizes_refuse, spelt_decides}
use Rattle.tree_file.proofs.write.spelling_verdict.Goals as goal

pub returns-then-rules-gt-MOST_RULES : goal.returns-then-rules-gt-MOST_RULES
returns-then-rules-gt-MOST_RULES c = many_rules _ _ _ c.if-rules-gt-MOST_RULES.true

pub returns-in_err-size_verdict : goal.returns-in_err-size_verdict
returns-in_err-size_verdict c = rw (passed _ c.from_residual.ensures.1)
    (sizes_refuse _ _ _ c.if-rules-gt-MOST_RULES.false (sym c.size_verdict.ensures ∙ c.in_err-size_verdict.was))

pub returns : goal.returns
returns c = c.spelt_verdict.ensures ∙
    spelt_decides _ _ _ c.if-rules-gt-MOST_RULES.false (sym c.size_verdict.ensures ∙ c.in_ok-size_verdict.was)
