-- `system::arguments::number_told` meets its contract: the argument stands behind the tab. Assumes nothing.
use native.Mathlib.Omega.{arith}
use mathlib.Core.Path.{sym}
use lib.ListN.{length-append}
use lib.Seq.{length-take-le}
use Rattle.ledger.specs.Ledger.{argued}
use Rattle.ledger.proofs.Entering.{enters_one}
use Rattle.system.proofs.Telling.{number_of_argument}
use Rattle.system.proofs.arguments.number_told.Goals as goal

pub slice_bounds-line-end-2 : goal.slice_bounds-line-end-2
slice_bounds-line-end-2 c = simp length-append (omega (arith, c.argument-n.ensures.within.0))

pub slice_bounds-number_in-end : goal.slice_bounds-number_in-end
slice_bounds-number_in-end c =
    sym (length-take-le _ _ (simp length-append (omega (arith, c.argument-n.ensures.within.0))))

pub returns : goal.returns
returns c =
    enters_one (argued _ _ _) c.argument-n.ensures.ledger_after
    (number_of_argument c.argument-n.new.room c.argument-n.result c.number_in.ensures (omega arith))
