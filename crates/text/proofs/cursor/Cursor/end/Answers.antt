-- `text::cursor::Cursor::end` meets its contract. Assumes nothing.
use Rattle.std.specs.Prelude.{Err}
use mathlib.Core.Path.{ap}
use borrow.Author.Tests.{lt-ltb, le-ltb}
use Rattle.text.specs.Cursors.{end_at}
use Rattle.text.proofs.cursor.Cursor.end.Goals as goal

pub returns-then-at-text : goal.returns-then-at-text
unfolding end_at
returns-then-at-text c = rw (lt-ltb _ _ c.if-at-text.true) (ap Err c.wrong.ensures)

pub returns : goal.returns
unfolding end_at
returns c = rw (le-ltb _ _ c.if-at-text.false, c.following.ensures)
