-- `console::say::put_hit` meets its contract: the word, how many, the numbers, the newline. Assumes nothing.
use native.Mathlib.Omega.{arith}
use Rattle.text.proofs.Puts.{put_then, put_same}
use Rattle.console.proofs.Saying.{hit_parts}
use Rattle.console.proofs.say.put_hit.Goals as goal

pub returns : goal.returns
returns c = let room = c.well_formed in
    let front = put_then (omega (arith, room)) c.put_bytes-p.ensures c.put_wide-q.ensures in
    let line = put_then (omega (arith, room)) front c.put_numbers-r.ensures in
    put_same (hit_parts _) (put_then (omega (arith, room)) line c.put.ensures)
