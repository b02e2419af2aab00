-- `builder::root::grow_boxes` meets its contract: a refusal stores nothing, and a whole tree is stored in front of
-- both outputs. Assumes nothing.
use Rattle.refusals.proofs.Passing.{passed}
use Prim.Native.Nat.{◌*◌, ◌≤◌}
use native.Mathlib.Omega.{arith}
use mathlib.Core.Path.{refl, sym}
use lib.Seq.{length-take-le}
use Rattle.trees.specs.Words.{node_words, most_nodes, most_pool}
use Rattle.builder.proofs.Building.{room_rooted, root_refuses, root_fits, root_stored}
use Rattle.builder.proofs.root.grow_boxes.Goals as goal
use Rattle.builder.proofs.root.grow_boxes.Goals.{In_ok-grown}

-- the tree is within the limits
fits :
    (c : goal.In_ok-grown) →
    (c.in_ok-grown.grown.next * node_words ≤ most_nodes * node_words) × (c.in_ok-grown.grown.entries ≤ most_pool)
fits c =
    let s = c.args in
    let f =
    root_fits _ s.nodes.now s.pool.now c.room_of-room.ensures c.grow_root.ensures
    c.in_ok-grown.was in
    (f.1, f.3)

pub grow_root-requires : goal.grow_root-requires
grow_root-requires c = room_rooted _ _ _ c.room_of-room.ensures c.requires.0 c.requires.1

pub overflow_mul-count : goal.overflow_mul-count
overflow_mul-count c = omega (arith, (fits (goal.at.overflow_mul-count c).In_ok-grown).0)

pub slice_bounds-words-end : goal.slice_bounds-words-end
slice_bounds-words-end c = omega (arith, (fits (goal.at.slice_bounds-words-end c).In_ok-grown).0, c.grow_root.auto)

pub slice_bounds-store_all-end : goal.slice_bounds-store_all-end
slice_bounds-store_all-end c = sym (length-take-le _ _ (omega (arith, (fits (goal.at.slice_bounds-store_all-end c).In_ok-grown).0, c.grow_root.auto)))

pub slice_bounds-list-end : goal.slice_bounds-list-end
slice_bounds-list-end c = omega (arith, (fits (goal.at.slice_bounds-list-end c).In_ok-grown).1, c.grow_root.auto)

pub slice_bounds-store_all-end-2 : goal.slice_bounds-store_all-end-2
slice_bounds-store_all-end-2 c = sym (length-take-le _ _ (omega (arith, (fits (goal.at.slice_bounds-store_all-end-2 c).In_ok-grown).1, c.grow_root.auto)))

pub returns-in_err-grown : goal.returns-in_err-grown
returns-in_err-grown c = let s = c.args in
    rw (passed _ c.from_residual.ensures.1)
    (root_refuses _ s.nodes.now s.pool.now c.room_of-room.ensures
    c.grow_root.ensures c.in_err-grown.was refl refl)

pub returns : goal.returns
returns c = let s = c.args in
    root_stored _ s.nodes.now s.pool.now c.room_of-room.ensures
    c.grow_root.ensures c.in_ok-grown.was (omega arith) (omega arith)
    c.store_all.ensures c.store_all-2.ensures
