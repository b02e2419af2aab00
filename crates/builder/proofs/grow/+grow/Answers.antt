-- `builder::grow::grow` meets its contract: what is looked at decides, and for a cut its left part, its own words and
-- its right part are stored in turn. Assumes nothing.
use Rattle.std.specs.Prelude.{Ok, Some}
use Rattle.refusals.proofs.Passing.{passed}
use Prim.Native.Nat.{ℕ, ◌≤◌}
use native.Mathlib.Omega.{arith}
use mathlib.Core.Path.{sym, ap, ◌∙◌}
use lib.ListN.{length}
use lib.Seq.{length-take-le}
use Rattle.builder.proofs.PartAnswers.{part_refused}
use Rattle.builder.proofs.PartsGrown.{bud_grown}
use Rattle.builder.proofs.Seeing.{SeenLeaf, SeenCut, seen_bud, seen_short, seen_leaf, seen_cut, leaf_grows, leaf_asks}
use Rattle.builder.proofs.SeenParts.{left_less, right_less, child_few, seen_field, seen_allowed, seen_node}
use Rattle.builder.proofs.SeenParts.{left_growable, right_growable, after_left_lem}
use Rattle.builder.proofs.JoinedParts.{left_part_refused, parts_joined}
use Rattle.builder.proofs.grow.+grow.Goals as goal
use Rattle.builder.proofs.grow.+grow.Goals.{In-Some-Cut, In-Some-Leaf}

-- a cut is seen at the node
cut_seen :
    {t : ℕ} (c : goal.In-Some-Cut t) →
    let a = c.args in
    SeenCut a.boxes.now a.standing.now a.kept.now a.bounds a.spot a.room c.look_at.new.met c.in-Some-Cut.field
    c.in-Some-Cut.value c.in-Some-Cut.count
cut_seen c = seen_cut c.look_at.ensures (c.in_ok-look_at.was ∙ ap Ok (c.in-Some-Cut.is ∙ ap Some c.in-Some-Cut.field-0-is))

-- a leaf is seen at the node
leaf_seen :
    {t : ℕ} (c : goal.In-Some-Leaf t) →
    let a = c.args in
    SeenLeaf a.boxes.now a.standing.now a.kept.now a.bounds a.spot a.room c.look_at.new.met c.in-Some-Leaf.count
leaf_seen c =
    seen_leaf c.look_at.ensures (c.in_ok-look_at.was ∙ ap Ok (c.in-Some-Leaf.is ∙ ap Some c.in-Some-Leaf.field-0-is))

-- its entries stand in front
leaf_within : {t : ℕ} (c : goal.In-Some-Leaf t) → c.in-Some-Leaf.count ≤ length c.look_at.new.met
leaf_within c = omega (arith, (leaf_seen c).few, c.look_at.auto)

-- the numbers that meet its box stand in front
cut_within : {t : ℕ} (c : goal.In-Some-Cut t) → c.in-Some-Cut.count ≤ length c.look_at.new.met
cut_within c = omega (arith, (cut_seen c).few, c.look_at.auto)

pub slice_bounds-grow-end : goal.slice_bounds-grow-end
slice_bounds-grow-end t c = sym (length-take-le _ _ (cut_within (goal.at.slice_bounds-grow-end t c).In-Some-Cut))

pub left_spot-requires : goal.left_spot-requires
left_spot-requires t c =
    (seen_allowed c.requires (cut_seen (goal.at.left_spot-requires t c).In-Some-Cut), c.requires.node)

pub grow-requires : goal.grow-requires
grow-requires t c =
    let s = cut_seen (goal.at.grow-requires t c).In-Some-Cut in (
      omega (arith, c.decreases, left_less _ c.left_spot.ensures (seen_allowed c.requires s)),
      left_growable c.requires s c.left_part-less.ensures c.left_spot.ensures,
    )

pub store_cut-requires : goal.store_cut-requires
store_cut-requires t c =
    let s = cut_seen (goal.at.store_cut-requires t c).In-Some-Cut in
    let after =
    after_left_lem c.requires s c.left_part-less.ensures c.left_spot.ensures c.grow.ensures c.in_ok-left-in-Some-Cut.was in
    (seen_node c.requires s, seen_field c.requires s, child_few _ _ c.right_child.ensures after.0)

pub slice_bounds-grow-end-in-Some-Cut : goal.slice_bounds-grow-end-in-Some-Cut
slice_bounds-grow-end-in-Some-Cut t c =
    sym (length-take-le _ _ (cut_within (goal.at.slice_bounds-grow-end-in-Some-Cut t c).In-Some-Cut))

pub right_spot-requires : goal.right_spot-requires
right_spot-requires t c = seen_allowed c.requires (cut_seen (goal.at.right_spot-requires t c).In-Some-Cut)

pub grow-requires-in-Some-Cut : goal.grow-requires-in-Some-Cut
grow-requires-in-Some-Cut t c =
    let s = cut_seen (goal.at.grow-requires-in-Some-Cut t c).In-Some-Cut in (
      omega (
        arith,
        c.decreases,
        right_less c.args.spot _ _ c.right_spot.ensures (seen_allowed c.requires s),
      ),
      right_growable c.requires s c.left_part-less.ensures c.left_spot.ensures c.grow.ensures c.in_ok-left-in-Some-Cut.was
          c.right_part-more.ensures c.right_spot.ensures,
    )

pub returns-in-None : goal.returns-in-None
returns-in-None t c = rw (seen_bud c.look_at.ensures (c.in_ok-look_at.was ∙ ap Ok c.in-None.is)) (bud_grown _ _)

pub returns-in_err-look_at : goal.returns-in_err-look_at
returns-in_err-look_at t c = rw (passed _ c.from_residual.ensures.1)
    (part_refused (seen_short c.look_at.ensures c.in_err-look_at.was))

pub returns-in-Some-Leaf : goal.returns-in-Some-Leaf
returns-in-Some-Leaf t c = rw (leaf_grows (seen_leaf c.look_at.ensures (c.in_ok-look_at.was ∙ ap Ok (c.in-Some-Leaf.is ∙ ap Some c.in-Some-Leaf.field-0-is)))) c.leaf_part.ensures

pub returns-in_err-left-in-Some-Cut : goal.returns-in_err-left-in-Some-Cut
returns-in_err-left-in-Some-Cut t c = rw (passed _ c.from_residual-in_err-left-in-Some-Cut.ensures.1)
    (left_part_refused (cut_seen (goal.at.returns-in_err-left-in-Some-Cut t c).In-Some-Cut) c.left_part-less.ensures
    c.left_spot.ensures c.grow.ensures c.in_err-left-in-Some-Cut.was)

pub returns-in_ok-left-in-Some-Cut : goal.returns-in_ok-left-in-Some-Cut
returns-in_ok-left-in-Some-Cut t c =
    parts_joined (cut_seen (goal.at.returns-in_ok-left-in-Some-Cut t c).In-Some-Cut) c.left_part-less.ensures
    c.left_spot.ensures c.grow.ensures c.in_ok-left-in-Some-Cut.was
    c.right_child.ensures c.store_cut.ensures
    c.right_part-more.ensures c.right_spot.ensures c.grow-in-Some-Cut.ensures

pub slice_bounds-met-end : goal.slice_bounds-met-end
slice_bounds-met-end t c = leaf_within c

pub slice_bounds-leaf_part-end : goal.slice_bounds-leaf_part-end
slice_bounds-leaf_part-end t c =
    sym (length-take-le _ _ (leaf_within (goal.at.slice_bounds-leaf_part-end t c).In-Some-Leaf))

pub leaf_part-requires : goal.leaf_part-requires
leaf_part-requires t c =
    let leaf = (goal.at.leaf_part-requires t c).In-Some-Leaf in leaf_asks c.requires (leaf_seen leaf) (leaf_within leaf)
