-- `builder::grow::leaf_part` meets its contract: entries that do not fit are refused, others are stored behind the
-- leaf's words. Assumes nothing.
use Rattle.built.proofs.FirstNode.{entries_short}
use Rattle.builder.proofs.PartAnswers.{part_refused}
use Rattle.builder.proofs.PartsGrown.{leaf_grown}
use Rattle.builder.proofs.grow.leaf_part.Goals as goal

pub returns-then-room-end : goal.returns-then-room-end
returns-then-room-end c = part_refused (entries_short _ _ _ _ c.requires.node _ c.if-room-end.true)

pub returns : goal.returns
returns c = leaf_grown _ _ _ c.requires.node c.if-room-end.false c.store_node.ensures c.store_all.ensures
