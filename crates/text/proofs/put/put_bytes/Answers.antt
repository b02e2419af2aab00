-- `text::put::put_bytes` meets its contract: at each turn the bytes before it are put. Assumes nothing.
use native.Mathlib.Omega.{arith}
use Rattle.text.proofs.Puts.{put_none, put_then, put_same, bytes_more}
use Rattle.text.proofs.put.put_bytes.Goals as goal

pub loop-byte-init : goal.loop-byte-init
loop-byte-init c = put_none _ _ (omega arith)

pub loop-byte-preserved : goal.loop-byte-preserved
loop-byte-preserved c = put_same (bytes_more _ _ c.loop-byte-test.true)
    (put_then (omega arith) c.loop-byte.invariant c.put-p.ensures)
