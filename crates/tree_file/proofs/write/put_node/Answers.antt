-- `tree_file::write::put_node` meets its contract: what stands at the node says which line it is. Assumes nothing.
use Prim.Native.Nat.{◌+◌, ◌*◌, ◌≤◌}
use native.Mathlib.Omega.{arith}
use lib.ListN.{length}
use mathlib.Core.Path.{sym, ap, ◌∙◌}
use Rattle.std.specs.Prelude.{Some}
use Rattle.text.proofs.Puts.{put_same}
use Rattle.trees.specs.Words.{node_words}
use Rattle.trees.proofs.Nodes.{IsLeaf, IsCut, missing_means, leaf_is, cut_is}
use Rattle.tree_file.proofs.Writing.{cut_with_newline, leaf_with_newline}
use Rattle.tree_file.proofs.write.put_node.Goals as goal
use Rattle.tree_file.proofs.write.put_node.Goals.{In-Some-Cut, In-Some-Leaf}

-- the leaf that stands there
leaf : (c : In-Some-Leaf) → IsLeaf c.args.nodes.now c.args.i c.in-Some-Leaf.start c.in-Some-Leaf.count
leaf c = leaf_is _ _ (sym c.node_at.ensures ∙ c.in-Some-Leaf.is ∙ ap Some c.in-Some-Leaf.field-0-is)

-- its entries lie in the pool
within : (c : In-Some-Leaf) → c.in-Some-Leaf.start + c.in-Some-Leaf.count ≤ length c.args.pool.now
within c = omega (arith, c.requires.part (leaf c).mark, (leaf c).start, (leaf c).count)

-- the cut that stands there
cut : (c : In-Some-Cut) → IsCut c.args.nodes.now c.args.i c.in-Some-Cut.field c.in-Some-Cut.value c.in-Some-Cut.child
cut c = cut_is _ _ (sym c.node_at.ensures ∙ c.in-Some-Cut.is ∙ ap Some c.in-Some-Cut.field-0-is)

pub overflow_add-end : goal.overflow_add-end
overflow_add-end c = omega (arith, within (goal.at.overflow_add-end c).In-Some-Leaf)

pub overflow_cast-count : goal.overflow_cast-count
overflow_cast-count c =
    let l = leaf (goal.at.overflow_cast-count c).In-Some-Leaf in
    omega (arith, l.count, l.there, c.type_inv.nodes (c.args.i * node_words + 2))

pub offset_bounds-pool-start : goal.offset_bounds-pool-start
offset_bounds-pool-start c = omega (arith, within (goal.at.offset_bounds-pool-start c).In-Some-Leaf)

pub slice_bounds-put_leaf-end : goal.slice_bounds-put_leaf-end
slice_bounds-put_leaf-end c = within (goal.at.slice_bounds-put_leaf-end c).In-Some-Leaf

pub overflow_cast-field : goal.overflow_cast-field
overflow_cast-field c =
    let k = cut (goal.at.overflow_cast-field c).In-Some-Cut in omega (arith, k.field, k.below_mark)

pub overflow_cast-child : goal.overflow_cast-child
overflow_cast-child c =
    let k = cut (goal.at.overflow_cast-child c).In-Some-Cut in
    omega (arith, k.child, k.there, c.type_inv.nodes (c.args.i * node_words + 2))

pub returns-in-None : goal.returns-in-None
returns-in-None c = absurd (omega (arith, missing_means _ _ (sym c.node_at.ensures ∙ c.in-None.is), c.requires.there))

pub returns-in-Some-Leaf : goal.returns-in-Some-Leaf
returns-in-Some-Leaf c =
    let w = (goal.at.returns-in-Some-Leaf c).In-Some-Leaf in
    let l = leaf w in
    put_same (leaf_with_newline _ _ _ _ _ l.mark l.start l.count (within w)) c.put_leaf.ensures

pub returns-in-Some-Cut : goal.returns-in-Some-Cut
returns-in-Some-Cut c =
    let k = cut (goal.at.returns-in-Some-Cut c).In-Some-Cut in
    put_same (rw (k.field, k.value, k.child) (cut_with_newline _ _ _ k.below_mark)) c.put_cut.ensures
