-- `console::say::put_miss` meets its contract: `match`; or `misses`, the number of the field, its name, the rule's own
-- words for it, the newline. Assumes nothing.
use native.Mathlib.Omega.{arith}
use Rattle.text.proofs.Puts.{put_then, put_same}
use Rattle.console.proofs.Saying.{match_parts, misses_parts}
use Rattle.console.proofs.say.put_miss.Goals as goal

pub returns-then-field-ge-FIELDS : goal.returns-then-field-ge-FIELDS
returns-then-field-ge-FIELDS c = let room = c.well_formed in
    put_same (match_parts _ _ _ c.if-field-ge-FIELDS.true)
    (put_then (omega (arith, room)) c.put_bytes-p.ensures c.put.ensures)

pub returns : goal.returns
returns c = let room = c.well_formed in
    let front = put_then (omega (arith, room)) c.put_bytes-p-2.ensures c.put_wide-q.ensures in
    let named = put_then (omega (arith, room)) front c.put_name-r.ensures in
    let line = put_then (omega (arith, room)) named c.put_words-s.ensures in
    put_same (misses_parts _ _ _ c.if-field-ge-FIELDS.false) (put_then (omega (arith, room)) line c.put-2.ensures)
