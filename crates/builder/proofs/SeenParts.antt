-- A cut that is seen: its parts can be grown.
use Rattle.std.specs.Prelude.{Result}
use Rattle.refusals.specs.declared.Refusal.{Refusal}
use Rattle.builder.specs.declared.grow.Grown.{Grown}
use Rattle.builder.specs.Said.{Grows}
use Prim.Native.Nat.{ℕ, ◌+◌, ◌-◌, ◌≤◌, ◌<◌}
use native.Mathlib.Omega.{arith}
use mathlib.Core.Bool.{Bool, true}
use mathlib.Core.Path.{◌≡◌, ap, ◌∙◌}
use mathlib.Core.List.{List}
use lib.ListN.{take}
use borrow.Author.Tests.{lt-ltb, le-ltb}
use Rattle.facts.specs.Lists.{all_under}
use Rattle.facts.proofs.Cases.{WithinOrOver, at_most, over, within_or_over}
use Rattle.facts.proofs.Under.{all_under_iff_has}
use Rattle.fields.specs.Words.{field_count}
use Rattle.fields.specs.Cuts.{left_part, right_part}
use Rattle.fields.proofs.Parts.{pairs_left_part, pairs_right_part}
use Rattle.trees.specs.Words.{most_nodes, most_pool}
use Rattle.built.specs.Boxes.{meeting}
use Rattle.built.specs.Stops.{child_before}
use Rattle.built.proofs.Meeting.{meeting_iff}
use Rattle.built.proofs.Fitting.{fine_nodes, fine_entries}
use Rattle.builder.specs.declared.grow.Spot.{Spot}
use Rattle.builder.specs.declared.grow.Room.{Room}
use Rattle.builder.specs.BoxWords.{box_count, boxes_in}
use Rattle.builder.specs.Growing.{grown_at, left_spot, right_spot, GrownPart, Growable}
use Rattle.builder.proofs.BoxWords.{box_count_lem}
use Rattle.builder.proofs.Narrower.{meeting_left, meeting_right}
use Rattle.builder.proofs.ChoiceTrees.{tree_cut}
use Rattle.builder.proofs.PartAnswers.{part_says}
use Rattle.builder.proofs.Looking.{cut_field}
use Rattle.builder.proofs.Seeing.{SeenCut}

-- a part of a cut has one cut fewer
pub left_less : (spot : Spot) {at : Spot} → at ≡ left_spot spot → 0 < spot.cuts → at.cuts < spot.cuts
left_less spot {at} e h = let q : at.cuts ≡ spot.cuts - 1 = ap (λ (s : Spot). s.cuts) e in omega arith

-- so has the other
pub right_less :
    (spot : Spot) {at : Spot} (next entries : ℕ) → at ≡ right_spot spot next entries → 0 < spot.cuts →
    at.cuts < spot.cuts
right_less spot {at} next entries e h =
    let q : at.cuts ≡ spot.cuts - 1 = ap (λ (s : Spot). s.cuts) e in omega arith

-- the right child of a cut is no more than the node after its left part
pub child_few : (e next : ℕ) {child m : ℕ} → child ≡ child_before e next → next ≤ m → child ≤ m
unfolding child_before
child_few e next {child} {m} q h = go (within_or_over e next)
  where
    go : WithinOrOver e next → child ≤ m
    go (at_most l) = let z : child ≡ 0 = q ∙ rw (le-ltb next e l) in omega arith
    go (over l) = let z : child ≡ next = q ∙ rw (lt-ltb next e l) in omega arith

module _ {ws above standing kept : List ℕ} {b : List (List ℕ)} {spot : Spot} {room : Room} {met : List ℕ}
    (g : Growable ws above standing kept b spot room) where
  module _ {f v count : ℕ} (s : SeenCut ws standing kept b spot room met f v count) where
    -- the field of a cut that is seen is one of the fields
    pub seen_field : f < field_count
    seen_field = cut_field spot.cuts field_count (boxes_in ws) standing b spot.node (omega arith) s.chosen

    -- one more cut is allowed there
    pub seen_allowed : 0 < spot.cuts
    seen_allowed = (tree_cut field_count (boxes_in ws) standing kept b spot.node spot.cuts s.chosen).0

    -- its node is below the most nodes
    pub seen_node : spot.node < most_nodes
    seen_node = omega (arith, s.there, g.nodes)

    met_under : all_under (box_count ws) (take count met) ≡ true
    met_under =
        rw s.meets
        ((all_under_iff_has (box_count ws) (meeting field_count (boxes_in ws) b)).1
        (λ y h. omega (arith, ((meeting_iff field_count (boxes_in ws) b y).0 h).0, box_count_lem ws)))

    -- its left part can be grown
    pub left_growable :
        {d : List (List ℕ)} {at : Spot} → d ≡ left_part b f v → at ≡ left_spot spot →
        Growable ws (take count met) standing kept d at room
    left_growable p q =
        rw (p, q)
        (record {
          few = g.few;
          known = met_under;
          reaches = rw s.meets (meeting_left ws b g.pairs f v);
          pairs = pairs_left_part field_count b g.pairs f v;
          spelt = g.spelt;
          cuts = omega (arith, g.cuts);
          node = omega (arith, seen_node);
          entries = g.entries;
          nodes = g.nodes;
          pool = g.pool;
        })

    module _ {d : List (List ℕ)} {at : Spot} {nodes pool nodes₁ pool₁ : List ℕ} {r : Result Grown Refusal} {next entries : ℕ}
        {o : Bool} (p : d ≡ left_part b f v) (q : at ≡ left_spot spot)
        (w : GrownPart (grown_at ws standing kept d at room) at room nodes pool r nodes₁ pool₁)
        (e : r ≡ Grows next entries o) where
      left_grown :
          GrownPart (grown_at ws standing kept (left_part b f v) (left_spot spot) room) (left_spot spot) room nodes pool r
          nodes₁ pool₁
      left_grown = rw (p, q) at w

      -- after its left part there are no more nodes than a tree has, and no more entries than a pool has
      pub after_left_lem : (next ≤ most_nodes) × (entries ≤ most_pool)
      after_left_lem =
          let x = grown_at ws standing kept (left_part b f v) (left_spot spot) room in
          let t = part_says left_grown e in
          let n = fine_nodes x (spot.node + 1) spot.entries room.nodes room.pool s.there t.0 in
          let u = fine_entries x (spot.node + 1) spot.entries room.nodes room.pool most_pool
          g.entries g.pool t.0 in
          (omega (arith, t.1, n, g.nodes), omega (arith, t.2, u))

      -- its right part can be grown
      pub right_growable :
          {d' : List (List ℕ)} {at' : Spot} → d' ≡ right_part b f v → at' ≡ right_spot spot next entries →
          Growable ws (take count met) standing kept d' at' room
      right_growable p' q' =
          rw (p', q')
          (record {
            few = g.few;
            known = met_under;
            reaches = rw s.meets (meeting_right ws b g.pairs f v);
            pairs = pairs_right_part field_count b g.pairs f v;
            spelt = g.spelt;
            cuts = omega (arith, g.cuts);
            node = after_left_lem.0;
            entries = after_left_lem.1;
            nodes = g.nodes;
            pool = g.pool;
          })
