-- `system::serve::answer_lines` meets its contract: at each turn the reads before it are answered. Assumes nothing.
use mathlib.Core.Path.{◌≡◌}
use lib.ListN.{length}
use Rattle.ledger.specs.Ledger.{Enters}
use Rattle.system.specs.Turns.{answer_for, TurnReached}
use Rattle.system.proofs.serve.answer_lines.Given as goal

abbrev pub invariant-loop : goal.invariant-loop
invariant-loop l =
    (length l.piece ≡ 65536) × (length l.out ≡ 65536) ×
    Enters (TurnReached (answer_for l.asked l.rules l.nodes l.pool) l.counter l.turn) l.initial.ledger l.ledger
