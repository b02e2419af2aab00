-- `compile::write_tree` meets its contract: what is due is handed out. Assumes nothing.
use native.Mathlib.Omega.{arith}
use mathlib.Core.Path.{sym}
use lib.Seq.{length-take-le}
use Rattle.system.proofs.Handing.{handed_as, due_text, due_refusal}
use Rattle.policy.proofs.CompiledSize.{room_enough}
use Rattle.compile.proofs.write_tree.Goals as goal

pub shared_ref_as_front-say : goal.shared_ref_as_front-say
shared_ref_as_front-say c =
    omega (arith, (due_text _ _ _ c.compile_text.ensures c.in-Ok.is).0)

pub returns-in-Err : goal.returns-in-Err
returns-in-Err c =
    handed_as (due_refusal _ _ _ c.compile_text.ensures (room_enough _ _ (omega arith)) c.in-Err.is) c.say_verdict.ensures

pub returns-in-Ok : goal.returns-in-Ok
returns-in-Ok c =
    handed_as (due_text _ _ _ c.compile_text.ensures c.in-Ok.is).1 c.say.ensures
