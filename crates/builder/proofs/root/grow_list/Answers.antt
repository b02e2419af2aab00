-- `builder::root::grow_list` meets its contract: the boxes that are filled are those of the list's rules. Assumes
-- nothing.
use native.Mathlib.Omega.{arith}
use mathlib.Core.Path.{sym}
use lib.Seq.{length-take-le}
use Rattle.rules.proofs.Lists.{good_of_fine}
use Rattle.builder.proofs.Building.{boxes_ready}
use Rattle.builder.proofs.root.grow_list.Goals as goal

pub fill_boxes-requires : goal.fill_boxes-requires
fill_boxes-requires c = (c.requires.0, omega (arith, (good_of_fine _ c.requires.0).few))

pub slice_bounds-boxes-end : goal.slice_bounds-boxes-end
slice_bounds-boxes-end c = omega (arith, (good_of_fine _ c.requires.0).few, c.fill_boxes.auto)

pub slice_bounds-grow_boxes-end : goal.slice_bounds-grow_boxes-end
slice_bounds-grow_boxes-end c = sym (length-take-le _ _ (omega (arith, (good_of_fine _ c.requires.0).few, c.fill_boxes.auto)))

pub grow_boxes-requires : goal.grow_boxes-requires
grow_boxes-requires c = boxes_ready _ _ (good_of_fine _ c.requires.0) c.fill_boxes.auto.out c.requires.1
