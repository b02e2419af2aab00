-- `text::put::put_line` meets its contract: the word, the fields, the newline. Assumes nothing.
use native.Mathlib.Omega.{arith}
use Rattle.text.specs.Line.{print_line}
use Rattle.text.proofs.Puts.{put_then}
use Rattle.text.proofs.put.put_line.Goals as goal

pub returns : goal.returns
unfolding print_line
returns c = put_then (omega arith)
    (put_then (omega arith)
    c.put_bytes-p.ensures
    c.put_fields-q.ensures)
    c.put.ensures
