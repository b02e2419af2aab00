-- The tree of a list, its words, and what the build refuses. Definitions only.
--   tree_of boxes          the tree of some boxes: that of the root's box
--   built_tree rs         the tree of a list: that of its rules' boxes
--   built_nodes rs, built_pool rs  its words
--   tree_fits t a b       4 at the first node of the tree t that passes the room a for node words or b for pool words,
--                         or the limits of a tree
--   build_verdict rs a b  1, 2, 11, then that
use Rattle.std.specs.Prelude.{ℕ, ◌*◌, min, List}
use Rattle.refusals.specs.Verdict.{Verdict}
use Rattle.refusals.specs.Order.{◌then◌}
use Rattle.fields.specs.Words.{field_count}
use Rattle.fields.specs.Boxes.{root_box}
use Rattle.rules.specs.Good.{list_verdict}
use Rattle.trees.specs.Words.{node_words, most_nodes, most_pool}
use Rattle.tree_check.specs.Whole.{most_cuts}
use Rattle.built.specs.Boxes.{boxes_of}
use Rattle.built.specs.Trees.{Tree, grown}
use Rattle.built.specs.Layout.{pooled, laid, fits}

abbrev pub tree_of : List (List (List ℕ)) → Tree
tree_of boxes = grown most_cuts field_count boxes root_box

unfoldable pub built_tree : List ℕ → Tree
built_tree rs = tree_of (boxes_of rs)

abbrev pub built_nodes : List ℕ → List ℕ
built_nodes rs = laid (built_tree rs) 0 0

abbrev pub built_pool : List ℕ → List ℕ
built_pool rs = pooled (built_tree rs)

abbrev pub tree_fits : Tree → ℕ → ℕ → Verdict
tree_fits t a b = fits t 0 0 (min a (most_nodes * node_words)) (min b most_pool)

unfoldable pub build_verdict : List ℕ → ℕ → ℕ → Verdict
build_verdict rs a b = list_verdict rs then tree_fits (built_tree rs) a b
