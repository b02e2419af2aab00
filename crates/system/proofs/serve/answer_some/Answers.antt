-- `system::serve::answer_some` meets its contract: standard input is read once, and what came is answered. Assumes
-- nothing.
use native.Mathlib.Omega.{arith}
use Rattle.ledger.specs.Ledger.{read}
use Rattle.ledger.proofs.Entering.{enters_first}
use Rattle.system.proofs.Inputs.{some_answered}
use Rattle.system.proofs.serve.answer_some.Goals as goal

pub answer_got-requires-clause-gets : goal.answer_got-requires-clause-gets
answer_got-requires-clause-gets c = c.read_some-got.ensures.front

pub returns : goal.returns
returns c =
    enters_first (read _ _ _ _) c.read_some-got.ensures.ledger_after c.answer_got.ensures
    (some_answered _ _ c.read_some-got.new.part _ c.standard_input-input.ensures (omega (arith, c.requires.piece_len))
    c.read_some-got.ensures.front)
