-- `compile::steps::load_part` meets its contract: the path is the second argument. Assumes nothing.
use native.Mathlib.Omega.{arith}
use Rattle.compile.proofs.Asked.{part_loaded}
use Rattle.compile.proofs.steps.load_part.Goals as goal

pub returns : goal.returns
returns c =
    part_loaded c.argument-n.new.room c.argument-n.result (omega arith) c.argument-n.ensures.ledger_after c.load.ensures
