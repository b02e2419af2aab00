-- `builder::boxes::fill_boxes` meets its contract. The invariant: the sides before this one stand in the words.
-- Assumes nothing.
use Prim.Native.Nat.{◌*◌}
use mathlib.Core.Path.{◌≡◌}
use lib.ListN.{length}
use Rattle.fields.specs.Words.{field_count}
use Rattle.rules.specs.Words.{rule_count}
use Rattle.builder.proofs.Sides.{SidesFilled}
use Rattle.builder.proofs.boxes.fill_boxes.Given as goal

abbrev pub invariant-loop-i : goal.invariant-loop-i
invariant-loop-i l = (l.sides ≡ rule_count l.rules * field_count) × (length l.out ≡ length l.initial.out) × SidesFilled l.rules l.out l.i
