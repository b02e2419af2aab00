-- `text::put::put_wide` meets its contract: the separator, then the digits. Assumes nothing.
use native.Mathlib.Omega.{arith}
use Rattle.text.proofs.Puts.{put_then}
use Rattle.text.proofs.put.put_wide.Goals as goal

pub returns : goal.returns
returns c = put_then (omega arith) c.put-p.ensures
    c.put_number.ensures
