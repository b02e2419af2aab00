-- `system::serve::answer_got` meets its contract, by what the read gave. Assumes nothing.
use mathlib.Core.Path.{refl, subst}
use Rattle.ledger.specs.Reads.{Gets}
use Rattle.ledger.proofs.Entering.{enters_none, enters_as}
use Rattle.system.specs.Turns as turns
use Rattle.system.proofs.Inputs.{got_ended, got_piece}
use Rattle.system.proofs.serve.answer_got.Goals as goal

pub slice_bounds-answer_piece-end : goal.slice_bounds-answer_piece-end
slice_bounds-answer_piece-end c = (subst (Gets _) c.in-Bytes.is c.requires.gets).1.1

pub returns-in-Failed : goal.returns-in-Failed
returns-in-Failed c = enters_none (got_ended _ _ _ turns.failed c.in-Failed.is refl)

pub returns-in-Ended : goal.returns-in-Ended
returns-in-Ended c = enters_none (got_ended _ _ _ turns.ended c.in-Ended.is refl)

pub returns-in-Bytes : goal.returns-in-Bytes
returns-in-Bytes c = enters_as c.answer_piece.ensures (got_piece _ _ _ c.in-Bytes.is)
