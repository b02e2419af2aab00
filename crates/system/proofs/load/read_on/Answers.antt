-- `system::load::read_on` meets its contract, and ends: each read fills more of the buffer, or is the last. Assumes
-- nothing.
use Prim.Native.Nat.{◌≤◌}
use native.Mathlib.Omega.{arith}
use mathlib.Core.Path.{refl, sym, ap, ◌∙◌}
use lib.ListN.{length}
use Rattle.facts.proofs.Bools.{clash}
use Rattle.ledger.specs.Ledger.{read as asked}
use Rattle.ledger.proofs.Entering.{enters_none, enters_last, enters_as, enters_then}
use Rattle.system.specs.declared.load.Reads.{Reads}
use Rattle.system.proofs.Loading.{as_long, part_fits, part_within, part_falls}
use Rattle.system.proofs.Loading.{head_first, head_step, head_over, head_past}
use Rattle.system.proofs.load.read_on.Goals as goal
use Rattle.system.proofs.load.read_on.Goals.{then-loop-reads-test+else-more, else-loop-reads-test}

pub loop-reads-init : goal.loop-reads-init
loop-reads-init c = let zero = ap (λ (r : Reads). r.done) c.start-reads.ensures in (
  omega (arith, zero),
  refl,
  enters_none
      (head_first _ _ c.start-reads.ensures),
)

pub next-reads-requires : goal.next-reads-requires
next-reads-requires c = let loop = c.loop-reads in
    let read = c.read_some in
    part_fits loop.buffer read.new.part loop.reads (omega arith) (omega arith) read.result
    (omega arith) read.ensures.front

pub loop-reads-smaller : goal.loop-reads-smaller
loop-reads-smaller c = let loop = c.loop-reads in
    let more = c.more in
    let if2 = c.if-more in
    let read = c.read_some in
    part_falls loop.buffer read.new.part loop.reads (omega arith) (omega arith) read.result
    (as_long loop.buffer read.new.part loop.reads (omega arith) (omega arith)) (sym more.ensures ∙
    if2.true) c.next-reads.ensures read.ensures.front

pub loop-reads-preserved : goal.loop-reads-preserved
loop-reads-preserved c = let loop = c.loop-reads in
    let more = c.more in
    let if2 = c.if-more in
    let read = c.read_some in
    let l = loop in let b = l.buffer in let p = read.new.part in let size = as_long b p l.reads
    (omega arith) (omega arith) in let inside = part_within b p l.reads (omega arith) (omega arith)
    read.result
    c.next-reads.ensures read.ensures.front in (
      omega (arith, inside, size),
      size ∙ l.invariant.1,
      enters_last (asked _ _ _ _)
          l.invariant.2 read.ensures.ledger_after (head_step b p l.reads (omega arith) (omega arith)
          read.result c.next-reads.ensures
          (sym more.ensures ∙ if2.true) read.ensures.front),
    )

pub returns-then-more-2 : goal.returns-then-more-2
returns-then-more-2 c =
    let more = sym c.more-2.ensures ∙ c.if-more-2.true in
    let full : length c.loop-reads.buffer ≤ c.loop-reads.reads.done = elim c.loop-reads-test.branch [
      | then-loop-reads-test+else-more w ↦ clash more (sym w.more.ensures ∙ w.if-more.false)
      | else-loop-reads-test w ↦ w.loop-reads-test.false
    ] in
    enters_then c.loop-reads.invariant.2 c.read_next.ensures (head_past _ _ full more c.past-reads.ensures)

pub returns-else-more-2 : goal.returns-else-more-2
returns-else-more-2 c = let loop = c.loop-reads in
    enters_as loop.invariant.2 (head_over (sym c.more-2.ensures ∙ c.if-more-2.false))
