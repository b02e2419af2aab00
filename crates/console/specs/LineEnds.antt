-- Where a line of a piece of input ends. Definitions only.
--   line_end s at   the place of the next newline of s, from the place at on; the end of s where there is none
use Rattle.std.specs.Prelude.{ℕ, List, length}
use Rattle.std.specs.Result.{result_unwrap_or}
use Rattle.text.specs.Cursors.{cursor_at, line_end_at}

unfoldable pub line_end : List ℕ → ℕ → ℕ
line_end s at = result_unwrap_or (line_end_at s (cursor_at at 0)) (length s)
