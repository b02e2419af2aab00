-- `tree_check::preorder::part_of` meets its contract: what is seen at the node decides, and for a cut its left part,
-- its right child's number and its right part, in this order. The cuts still allowed fall at each call.
-- Assumes nothing.
use Prim.Native.Nat.{ℕ, ◌+◌, ◌≤◌}
use native.Mathlib.Omega.{arith}
use mathlib.Core.Path.{sym, ap, ◌∙◌}
use Rattle.std.specs.Prelude.{Ok, Some}
use Rattle.refusals.proofs.Passing.{passed}
use lib.ListN.{length}
use Rattle.tree_check.proofs.Looking.{SeesLeaf, SeesCut, sees_leaf, sees_cut, sees_missing, sees_wrong}
use Rattle.tree_check.specs.Preorder.{after_right}
use Rattle.tree_check.proofs.Leaves.{seen_within, seen_part, shallow_cuts}
use Rattle.tree_check.proofs.Joining.{part_is_shallow, left_refused, wrong_child, parts_joined, left_shallow}
use Rattle.tree_check.proofs.preorder.+part_of.Goals as goal
use Rattle.tree_check.proofs.preorder.+part_of.Goals.{In-Some-Leaf, In-Some-Cut}

-- a leaf is seen at the node
leaf_seen :
    {t : ℕ} (c : goal.In-Some-Leaf t) →
    let a = c.args in
    SeesLeaf a.far a.rules.now a.nodes.now a.pool.now a.cuts a.bounds a.at c.in-Some-Leaf.start c.in-Some-Leaf.count
leaf_seen c = sees_leaf _ _ _ _ _ _ _ _ c.look_at.ensures (c.in_ok-look_at.was ∙ ap Ok (c.in-Some-Leaf.is ∙ ap Some c.in-Some-Leaf.field-0-is))

-- its entries lie within the pool
leaf_within : {t : ℕ} (c : goal.In-Some-Leaf t) → c.in-Some-Leaf.start + c.in-Some-Leaf.count ≤ length c.args.pool.now
leaf_within c = seen_within _ _ _ _ _ _ _ (leaf_seen c) c.requires.0

-- a cut is seen at the node
cut_seen :
    {t : ℕ} (c : goal.In-Some-Cut t) →
    let a = c.args in
    SeesCut a.far a.rules.now a.nodes.now a.pool.now a.cuts a.bounds a.at c.in-Some-Cut.field c.in-Some-Cut.value c.in-Some-Cut.child
cut_seen c = sees_cut _ _ _ _ _ _ _ _ c.look_at.ensures (c.in_ok-look_at.was ∙ ap Ok (c.in-Some-Cut.is ∙ ap Some c.in-Some-Cut.field-0-is))

pub overflow_add-end : goal.overflow_add-end
overflow_add-end t c = omega (arith, leaf_within c, c.well_formed)

pub offset_bounds-pool-start : goal.offset_bounds-pool-start
offset_bounds-pool-start t c = omega (arith, leaf_within c, c.well_formed)

pub slice_bounds-leaf_part-end : goal.slice_bounds-leaf_part-end
slice_bounds-leaf_part-end t c = leaf_within c

pub leaf_part-requires : goal.leaf_part-requires
leaf_part-requires t c =
    omega (arith, (leaf_seen (goal.at.leaf_part-requires t c).In-Some-Leaf).is.there, c.well_formed)

pub overflow_add-at : goal.overflow_add-at
overflow_add-at t c = omega (arith, (cut_seen (goal.at.overflow_add-at t c).In-Some-Cut).is.there, c.well_formed)

pub overflow_sub-cuts : goal.overflow_sub-cuts
overflow_sub-cuts t c = (cut_seen (goal.at.overflow_sub-cuts t c).In-Some-Cut).allowed

pub part_of-requires : goal.part_of-requires
part_of-requires t c =
    let few = (cut_seen (goal.at.part_of-requires t c).In-Some-Cut).allowed in
    (omega (arith, c.decreases), (c.requires.0, omega (arith, c.requires.1)))

pub returns-then-child-child_at : goal.returns-then-child-child_at
returns-then-child-child_at t c =
    wrong_child _ _ _ _ _ _ _ (cut_seen (goal.at.returns-then-child-child_at t c).In-Some-Cut) _ c.left_part-less.ensures
    c.part_of.ensures c.in_ok-left-in-Some-Cut.was c.child_at.ensures c.if-child-child_at.true

pub returns-in-None : goal.returns-in-None
returns-in-None t c = c.no_part.ensures ∙ sees_missing _ _ _ _ _ _ _ _ c.look_at.ensures (c.in_ok-look_at.was ∙ ap Ok c.in-None.is)

pub returns-in_err-look_at : goal.returns-in_err-look_at
returns-in_err-look_at t c = rw (passed _ c.from_residual.ensures.1)
    (sees_wrong _ _ _ _ _ _ _ _ c.look_at.ensures c.in_err-look_at.was)

pub returns-in-Some-Leaf : goal.returns-in-Some-Leaf
returns-in-Some-Leaf t c = seen_part _ _ _ _ _ _ _ (leaf_seen (goal.at.returns-in-Some-Leaf t c).In-Some-Leaf) c.leaf_part.ensures

pub overflow_sub-cuts-in-Some-Cut : goal.overflow_sub-cuts-in-Some-Cut
overflow_sub-cuts-in-Some-Cut t c = (cut_seen (goal.at.overflow_sub-cuts-in-Some-Cut t c).In-Some-Cut).allowed

pub part_of-requires-in-Some-Cut : goal.part_of-requires-in-Some-Cut
part_of-requires-in-Some-Cut t c =
    let few = (cut_seen (goal.at.part_of-requires-in-Some-Cut t c).In-Some-Cut).allowed in
    (omega (arith, c.decreases), (c.requires.0, omega (arith, c.requires.1)))

pub join-requires : goal.join-requires
join-requires t c =
    let left =
    left_shallow _ _ _ _ _ _ _ (cut_seen (goal.at.join-requires t c).In-Some-Cut) _ c.left_part-less.ensures
    c.part_of.ensures c.in_ok-left-in-Some-Cut.was in
    let right = part_is_shallow _ _ _ _ _ _ _ _ c.part_of-in-Some-Cut.ensures (omega (arith, c.requires.1)) in (
      omega (arith, c.requires.1, left),
      shallow_cuts _ c.in_ok-right-in-Some-Cut.was right,
    )

pub returns-in_err-left-in-Some-Cut : goal.returns-in_err-left-in-Some-Cut
returns-in_err-left-in-Some-Cut t c = rw (passed _ c.from_residual-in_err-left-in-Some-Cut.ensures.1)
    (left_refused _ _ _ _ _ _ _ (cut_seen (goal.at.returns-in_err-left-in-Some-Cut t c).In-Some-Cut) _
    c.left_part-less.ensures c.part_of.ensures c.in_err-left-in-Some-Cut.was)

pub returns-in_err-right-in-Some-Cut : goal.returns-in_err-right-in-Some-Cut
returns-in_err-right-in-Some-Cut t c = rw (passed _ c.from_residual-in_err-right-in-Some-Cut.ensures.1)
    (parts_joined _ _ _ _ _ _ _ (cut_seen (goal.at.returns-in_err-right-in-Some-Cut t c).In-Some-Cut) _
    c.left_part-less.ensures c.part_of.ensures c.in_ok-left-in-Some-Cut.was _ c.child_at.ensures
    c.if-child-child_at.false c.right_part-more.ensures c.part_of-in-Some-Cut.ensures
    (sym (ap (after_right _ _ _) c.in_err-right-in-Some-Cut.was)))

pub returns-in_ok-right-in-Some-Cut : goal.returns-in_ok-right-in-Some-Cut
returns-in_ok-right-in-Some-Cut t c =
    parts_joined _ _ _ _ _ _ _ (cut_seen (goal.at.returns-in_ok-right-in-Some-Cut t c).In-Some-Cut) _
    c.left_part-less.ensures c.part_of.ensures c.in_ok-left-in-Some-Cut.was _ c.child_at.ensures
    c.if-child-child_at.false c.right_part-more.ensures c.part_of-in-Some-Cut.ensures
    (c.join.ensures ∙ sym (ap (after_right _ _ _) c.in_ok-right-in-Some-Cut.was))
