-- `builder::root::grow_root` meets its contract: all numbers may meet the root's box. Assumes nothing.
use Rattle.builder.proofs.Rooting.{root_growable}
use Rattle.builder.proofs.root.grow_root.Goals as goal

pub grow-requires : goal.grow-requires
grow-requires c = root_growable _ _ _ c.root_box.ensures c.root_spot.ensures
    c.requires c.count_up.ensures
