-- `text::put::put_fields` meets its contract: at each turn the fields before it are put. Assumes nothing.
use native.Mathlib.Omega.{arith}
use lib.ListN.{length, length-append}
use Rattle.std.proofs.Common.{rules}
use Rattle.std.proofs.lemmas.Slice.Zip.{zip_turn, zip_end}
use Rattle.text.specs.Line.{print_fields}
use Rattle.text.proofs.Puts.{put_none, put_then, put_same, fields_more, fields_spent}
use Rattle.text.proofs.put.put_fields.Goals as goal

pub loop-mark-init : goal.loop-mark-init
unfolding print_fields
loop-mark-init c = put_none _ _ (omega arith)

pub loop-mark-preserved : goal.loop-mark-preserved
loop-mark-preserved c =
    let marks = c.args.marks.now in
    let values = c.args.values.now in
    let t = zip_turn marks values c.loop-mark.yielded c.into_iter-mark-iterator.result c.loop-mark.mark-iterator
    c.next.new.self c.next.result (search rules) (search rules) c.loop-mark.yielded_by
    (c.in-Some.mark, c.in-Some.value) c.in-Some.is c.next.ensures.steps in
    simp length-append
    (put_same (rw (t.2 0, t.3 0) (fields_more marks values (length c.loop-mark.yielded) t.0 t.1))
    (put_then (omega arith) c.loop-mark.invariant c.put_behind-p.ensures))

pub returns : goal.returns
returns c =
    let marks = c.args.marks.now in
    let values = c.args.values.now in
    let e = zip_end marks values c.loop-mark.yielded c.into_iter-mark-iterator.result c.loop-mark.mark-iterator
    c.next.new.self c.next.result (search rules) (search rules) c.loop-mark.yielded_by c.in-None.is
    c.next.ensures.steps in
    put_same (fields_spent marks values _ (omega (arith, e))) c.loop-mark.invariant
