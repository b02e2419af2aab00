-- `text::cursor::Cursor::numbers` meets its contract: at each turn the numbers before it are held. Assumes nothing.
use Rattle.text.proofs.Behind.{MarksLeft}
use Rattle.text.proofs.cursor.Cursor.numbers.Given as goal

abbrev pub invariant-loop-i : goal.invariant-loop-i
invariant-loop-i l = MarksLeft l.text l.marks l.initial.at l.i l.at l.values
