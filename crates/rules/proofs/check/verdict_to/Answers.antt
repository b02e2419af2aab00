-- `rules::check::verdict_to` meets its contract: what refuses before twins do decides first, and then twins. Assumes
-- nothing.
use native.Mathlib.Omega.{arith}
use mathlib.Core.Path.{sym, ◌∙◌}
use Rattle.rules.proofs.Lists.{rules_fine_iff, rules_refuse, twins_decide}
use Rattle.refusals.proofs.Passing.{passed}
use Rattle.rules.proofs.check.verdict_to.Goals as goal

pub twins_verdict-requires : goal.twins_verdict-requires
twins_verdict-requires c = let fine = sym c.rules_verdict.ensures ∙ c.in_ok-rules_verdict.was in
    omega (arith, ((rules_fine_iff _ _).0 fine).few)

pub returns-in_err-rules_verdict : goal.returns-in_err-rules_verdict
returns-in_err-rules_verdict c = rw (passed _ c.from_residual.ensures.1)
    (sym (rules_refuse _ _ (sym c.rules_verdict.ensures ∙ c.in_err-rules_verdict.was)))

pub returns : goal.returns
returns c = let fine = sym c.rules_verdict.ensures ∙ c.in_ok-rules_verdict.was in
    c.twins_verdict.ensures ∙ sym (twins_decide _ _ fine)
