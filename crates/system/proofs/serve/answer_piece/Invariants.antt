-- `system::serve::answer_piece` meets its contract: each turn of the loop takes some bytes of the piece, has their
-- replies written, and goes on from the line that they leave gathered. Assumes nothing.
use Prim.Native.Nat.{◌-◌}
use mathlib.Core.Path.{◌≡◌}
use lib.ListN.{length}
use Rattle.ledger.specs.Ledger.{Enters}
use Rattle.system.specs.Turns.{answer_for}
use Rattle.system.proofs.Turning.{Head}
use Rattle.system.proofs.serve.answer_piece.Given as goal

abbrev pub invariant-loop-at : goal.invariant-loop-at
invariant-loop-at l =
    Enters (Head (answer_for l.asked l.rules l.nodes l.pool) l.fn.from l.piece l.gathering l.at) l.initial.ledger l.ledger ×
    (length l.out ≡ length l.initial.out)

abbrev pub decreases-loop-at : goal.decreases-loop-at
decreases-loop-at l = length l.piece - l.at
