-- `console::say::put_refused` meets its contract: the word, three numbers, the newline. Assumes nothing.
use native.Mathlib.Omega.{arith}
use Rattle.text.proofs.Puts.{put_then, put_same}
use Rattle.console.proofs.Saying.{refused_parts, refused_few}
use Rattle.console.proofs.say.put_refused.Goals as goal

pub returns : goal.returns
returns c = let room = c.well_formed in
    let x = c.number_of in
    let y = c.place_of in
    let z = c.extra_of in
    let front = put_then (omega (arith, room)) c.put_bytes-p.ensures c.put_wide-q.ensures in
    let behind = put_then (omega (arith, room)) front c.put_wide-r.ensures in
    let line = put_then (omega (arith, room)) behind c.put_wide-s.ensures in (
      put_same (refused_parts _ x.ensures y.ensures z.ensures)
          (put_then (omega (arith, room)) line c.put.ensures),
      refused_few _ (omega (arith, x.type_inv, x.ensures)) (omega (arith, y.type_inv, y.ensures))
          (omega (arith, z.type_inv, z.ensures)),
    )
