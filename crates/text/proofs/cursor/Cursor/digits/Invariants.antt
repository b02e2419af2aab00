-- `text::cursor::Cursor::digits` meets its contract: at each turn the digits before it make the value. Assumes nothing.
use Rattle.text.proofs.Scanning.{NumberLeft}
use Rattle.text.proofs.cursor.Cursor.digits.Given as goal

abbrev pub invariant-loop-at : goal.invariant-loop-at
invariant-loop-at l = NumberLeft l.text l.fn.self.at l.at l.value
