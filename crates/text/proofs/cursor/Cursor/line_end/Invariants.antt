-- `text::cursor::Cursor::line_end` meets its contract: at each turn no newline stands before it. Assumes nothing.
use Rattle.text.proofs.Scanning.{EndLeft}
use Rattle.text.proofs.cursor.Cursor.line_end.Given as goal

abbrev pub invariant-loop-end : goal.invariant-loop-end
invariant-loop-end l = EndLeft l.text l.fn.self.at l.end
