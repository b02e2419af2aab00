-- `builder::boxes::fill_boxes` meets its contract. The invariant: the sides before this one stand in the words.
-- Assumes nothing.
use Prim.Native.Nat.{ℕ, ◌*◌, ◌^◌, ◌<◌}
use native.Mathlib.Omega.{arith}
use mathlib.Core.Path.{◌≡◌, ap, ◌∙◌}
use lib.ListN.{length, get_or}
use lib.Seq.{length-sets}
use Rattle.fields.specs.Words.{address_bits, field_count}
use Rattle.rules.specs.Words.{rule_count}
use Rattle.builder.proofs.Sides.{side_found, sides_step, sides_last}
use Rattle.builder.proofs.boxes.fill_boxes.Goals as goal

pub loop-i-preserved : goal.loop-i-preserved
loop-i-preserved c = let rules = c.args.rules.now in
    let i = c.loop-i.i in
    let found = c.ends_of-ends in
    let words : (k : ℕ) → get_or rules k 0 < 2 ^ address_bits =
    λ k. omega (arith, c.type_inv.rules k) in
    let ends = found.ensures ∙ side_found rules i c.requires.0 words (omega arith) in
    let stored = c.store_all.ensures in (
      c.loop-i.invariant.0,
      ap length stored ∙ length-sets c.loop-i.out (i * 2) found.result ∙ c.loop-i.invariant.1,
      sides_step c.loop-i.invariant.2 (omega arith) ends stored,
    )

pub returns : goal.returns
returns c = let rules = c.args.rules.now in
    let all : c.loop-i.i ≡ rule_count rules * field_count = omega arith in
    sides_last rules c.loop-i.out (rw all at c.loop-i.invariant.2) (omega arith)
