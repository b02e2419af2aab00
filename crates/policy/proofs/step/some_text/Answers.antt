-- `policy::step::some_text` meets its contract: the first nodes of the tree are built, and what stands then is written.
-- Assumes nothing.
use Rattle.refusals.proofs.Passing.{passed}
use mathlib.Core.Path.{refl}
use native.Mathlib.Omega.{arith}
use Rattle.policy.proofs.StepTexts.{step_within, step_written}
use Rattle.policy.proofs.StepSize.{step_spelling, some_judged}
use Rattle.policy.proofs.step.some_text.Goals as goal

pub step_text-requires : goal.step_text-requires
step_text-requires c = step_within _ _ _ _ _ (omega arith) (omega arith) _ c.build_some.ensures c.in_ok-step.was

pub returns-in_err-step : goal.returns-in_err-step
returns-in_err-step c = rw (passed _ c.from_residual.ensures.1)
    (step_written _ _ _ _ _ (omega arith) (omega arith) _ c.build_some.ensures _ c.in_err-step.was
    (step_spelling _ (some_judged _ _)) (refl, refl))

pub returns : goal.returns
returns c = step_written _ _ _ _ _ (omega arith) (omega arith) _ c.build_some.ensures _ c.in_ok-step.was
    (step_spelling _ (some_judged _ _)) c.step_text.ensures
