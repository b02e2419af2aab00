-- One node by its words. Definitions only.
--   node_at nodes i   node i: none is there; a leaf with its start and count; or a cut with its field, value and child
use Rattle.trees.specs.declared.words.Node.{Node}
use Rattle.trees.specs.Standing.{Cut, Leaf, Missing}
use Rattle.std.specs.Prelude.{ℕ, cond, List, leb, Option}
use Rattle.trees.specs.Words.{leaf_mark, node_count, field_of, value_of, child_of, start_of, count_of}

unfoldable pub node_at : List ℕ → ℕ → Option Node
node_at nodes i =
    cond (leb (node_count nodes) i) Missing
    (cond (leb leaf_mark (field_of nodes i)) (Leaf (start_of nodes i) (count_of nodes i))
    (Cut (field_of nodes i) (value_of nodes i) (child_of nodes i)))
