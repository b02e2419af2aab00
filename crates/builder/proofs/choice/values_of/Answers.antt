-- `builder::choice::values_of` meets its contract: the ends that divide the box are stored, and once sorted they are
-- the cut values. Assumes nothing.
use Prim.Native.Nat.{◌≤◌}
use native.Mathlib.Omega.{arith}
use mathlib.Core.Path.{◌≡◌, refl, sym}
use lib.ListN.{length, take}
use lib.Seq.{length-take-le}
use Rattle.builder.specs.ChoiceSteps.{most_values, found, few}
use Rattle.builder.proofs.FieldValues.{stored_few, stored_size, values_few, values_found}
use Rattle.builder.proofs.choice.values_of.Goals as goal
use Rattle.builder.proofs.choice.values_of.Goals.{After-store_ends-n, After-sort_once-count}

-- the ends stored are no more than there is room for
room-left :
    (c : goal.After-store_ends-n) →
    (c.store_ends-n.result ≤ most_values) × (most_values ≤ length c.store_ends-n.new.values)
room-left c =
    let known = c.requires in
    let stored = c.store_ends-n.ensures in
    (stored_few known.0 _ stored known.2, omega (arith, stored_size known.0 _ stored known.2, known.2))

-- they are as many words as are lent to be sorted
lent-few :
    (c : goal.After-store_ends-n) →
    let n = c.store_ends-n.result in length (take n c.store_ends-n.new.values) ≡ n
lent-few c =
    length-take-le c.store_ends-n.result c.store_ends-n.new.values (omega (
      arith,
      (room-left c
          ).0,
      (room-left c).1,
    ))

-- so are those that are left
sorted-few : (c : goal.After-sort_once-count) → c.sort_once-count.result ≤ most_values
sorted-few c =
    let known = c.requires in
    let stored = c.store_ends-n.ensures in
    let kept = stored_few known.0 _ stored known.2 in
    let size = stored_size known.0 _ stored known.2 in
    let lent =
    length-take-le c.store_ends-n.result c.store_ends-n.new.values (omega (arith, kept, size, known.2)) in
    omega (arith, c.sort_once-count.ensures.within, c.sort_once-count.auto.words, lent, kept)

pub slice_bounds-sort_once-end : goal.slice_bounds-sort_once-end
slice_bounds-sort_once-end c = let h = room-left (goal.at.slice_bounds-sort_once-end c).After-store_ends-n in omega arith

pub slice_bounds-sort_once-end-2 : goal.slice_bounds-sort_once-end-2
slice_bounds-sort_once-end-2 c = sym (lent-few (goal.at.slice_bounds-sort_once-end-2 c).After-store_ends-n)

pub sort_once-count-requires : goal.sort_once-count-requires
sort_once-count-requires c = omega (arith, lent-few (goal.at.sort_once-count-requires c).After-store_ends-n, (room-left (goal.at.sort_once-count-requires c).After-store_ends-n).0, c.requires.3)

pub returns-then-n-least : goal.returns-then-n-least
returns-then-n-least c = few refl refl
    (omega (
      arith,
      values_few c.requires.0 _ c.store_ends-n.ensures c.requires.2 c.requires.1,
      c.if-n-least.true,
    ))

pub returns : goal.returns
returns c = rw c.middle_place.ensures
    (found
    (values_found c.requires.0 _ c.store_ends-n.ensures c.requires.2 c.requires.1 _ c.sort_once-count.ensures))
