-- `builder::grow::look_at` meets its contract: the end and the node's words are looked at first; then the numbers that
-- meet the box are kept, and the choice says which case it is. Assumes nothing.
use Prim.Native.Nat.{◌≤◌}
use native.Mathlib.Omega.{arith}
use mathlib.Core.Path.{refl, sym, ap, ◌∙◌}
use lib.ListN.{length}
use lib.Seq.{length-take-le}
use Rattle.built.specs.Trees.{leaf}
use Rattle.builder.specs.Growing.{is_bud, short, is_leaf, is_cut}
use Rattle.builder.proofs.ChoiceTrees.{tree_leaf, tree_stands}
use Rattle.builder.proofs.Looking.{met_few, met_front, met_known, stands_front, stands_leaf, stands_within}
use Rattle.builder.proofs.grow.look_at.Goals as goal
use Rattle.builder.proofs.grow.look_at.Goals.{After-keep_meeting-count}

pub returns-then-room-at : goal.returns-then-room-at
returns-then-room-at c = is_bud c.if-room-at.true

pub returns-then-room-words : goal.returns-then-room-words
returns-then-room-words c = short c.if-room-at.false c.if-room-words.true refl

-- they have room for as many as there are
kept-within :
    (k : goal.After-keep_meeting-count) →
    k.keep_meeting-count.result ≤ length k.keep_meeting-count.new.out
kept-within k = omega (arith, met_few k.requires.0 k.keep_meeting-count.ensures, k.requires.1, k.keep_meeting-count.auto)

pub slice_bounds-choice_of-end : goal.slice_bounds-choice_of-end
slice_bounds-choice_of-end c = kept-within (goal.at.slice_bounds-choice_of-end c).After-keep_meeting-count

pub slice_bounds-choice_of-end-2 : goal.slice_bounds-choice_of-end-2
slice_bounds-choice_of-end-2 c = sym (length-take-le _ _ (kept-within (goal.at.slice_bounds-choice_of-end-2 c).After-keep_meeting-count))

pub choice_of-requires : goal.choice_of-requires
choice_of-requires c = met_known c.requires.0 c.keep_meeting-count.ensures c.requires.1

pub copy_entries-requires : goal.copy_entries-requires
copy_entries-requires c = (stands_within _ _ _ _ _ _ c.requires.0.spelt (sym c.choice_of.ensures ∙ c.in-Stands.is)
    ).0

pub returns-in-Leaf : goal.returns-in-Leaf
returns-in-Leaf c = is_leaf c.if-room-at.false c.if-room-words.false
    (met_few c.requires.0 c.keep_meeting-count.ensures)
    (tree_leaf _ _ _ _ _ _ _ (sym c.choice_of.ensures ∙ c.in-Leaf.is) ∙
    ap leaf (sym (met_front c.requires.0 c.keep_meeting-count.ensures c.requires.1)))

pub returns-in-Stands : goal.returns-in-Stands
returns-in-Stands c = let chosen = sym c.choice_of.ensures ∙ c.in-Stands.is in
    let w = stands_within _ _ _ _ _ _ c.requires.0.spelt chosen in
    is_leaf {count = c.in-Stands.long} c.if-room-at.false c.if-room-words.false
    (omega (arith, w.1, c.requires.0.few))
    (tree_stands _ _ _ _ _ _ _ (stands_leaf _ _ _ _ _ _ chosen) ∙
    ap leaf (sym (stands_front _ _ _ _ w.0 (omega (arith, w.1, c.requires.0.few, c.requires.1, c.keep_meeting-count.auto))
    c.copy_entries.ensures)))

pub returns-in-Cut : goal.returns-in-Cut
returns-in-Cut c = is_cut c.if-room-at.false c.if-room-words.false (met_few c.requires.0 c.keep_meeting-count.ensures)
    (sym c.choice_of.ensures ∙ c.in-Cut.is)
    (met_front c.requires.0 c.keep_meeting-count.ensures c.requires.1)
