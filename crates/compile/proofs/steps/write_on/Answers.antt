-- `compile::steps::write_on` meets its contract: what is due is handed out. Assumes nothing.
use native.Mathlib.Omega.{arith}
use mathlib.Core.Path.{sym}
use lib.Seq.{length-take-le}
use Rattle.system.proofs.Handing.{handed_as, due_text, due_refusal}
use Rattle.policy.proofs.StepSize.{on_judged, step_room}
use Rattle.compile.proofs.steps.write_on.Goals as goal

pub shared_ref_as_front-say : goal.shared_ref_as_front-say
shared_ref_as_front-say c =
    omega (arith, (due_text _ _ _ c.on_text.ensures c.in-Ok.is).0)

pub returns-in-Err : goal.returns-in-Err
returns-in-Err c =
    handed_as (due_refusal _ _ _ c.on_text.ensures (step_room _ (on_judged _ _ _ _ _) _ (omega arith)) c.in-Err.is) c.say_verdict.ensures

pub returns-in-Ok : goal.returns-in-Ok
returns-in-Ok c =
    handed_as (due_text _ _ _ c.on_text.ensures c.in-Ok.is).1 c.say.ensures
