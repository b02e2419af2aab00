-- `why::answer` meets its contract: the list that is handed on is that of the file. Assumes nothing.
use native.Mathlib.Omega.{arith}
use mathlib.Core.Path.{sym}
use lib.Seq.{length-take-le}
use Rattle.policy.proofs.Listing.{list_taken}
use Rattle.policy.proofs.Refusing.{list_untaken}
use Rattle.system.proofs.Running.{ran_refused, ran_by_list}
use Rattle.why.proofs.answer.Goals as goal

pub slice_bounds-rules-end : goal.slice_bounds-rules-end
slice_bounds-rules-end c =
    (list_taken _ c.take_list.ensures c.in-Ok.is).1

pub slice_bounds-serve_why-end : goal.slice_bounds-serve_why-end
slice_bounds-serve_why-end c =
    sym (length-take-le _ _ (list_taken _ c.take_list.ensures c.in-Ok.is).1)

pub returns-in-Err : goal.returns-in-Err
returns-in-Err c =
    ran_refused _ (omega arith) c.load-file.ensures (list_untaken _ (omega arith) c.take_list.ensures c.in-Err.is) c.say_verdict.ensures

pub returns-in-Ok : goal.returns-in-Ok
returns-in-Ok c =
    ran_by_list _ (omega arith) c.load-file.ensures (list_taken _ c.take_list.ensures c.in-Ok.is).0 c.serve_why.ensures
