-- A tree covers the rules of a list in a box: each cut divides its box, and each leaf lists the rules that meet the
-- leaf's box. The tree that is built does, and so does a part of it that is grown so far.
use Prim.Native.Nat.{ℕ, zero, suc, ◌+◌, ◌≤◌, ◌<◌}
use native.Mathlib.Omega.{arith}
use mathlib.Core.Bool.{Bool, true, false}
use mathlib.Core.Path.{◌≡◌, refl}
use mathlib.Core.List.{List}
use lib.ListN.{length}
use Rattle.facts.specs.Lists.{has, rises}
use Rattle.facts.proofs.Cases.{WithinOrOver, at_most, over, within_or_over}
use Rattle.fields.specs.Words.{field_count}
use Rattle.fields.specs.Boxes.{meets, root_box}
use Rattle.fields.specs.Cuts.{divides, left_of, right_of}
use Rattle.rules.specs.Words.{rule_count}
use Rattle.rules.specs.Matching.{rule_box}
use Rattle.tree_check.specs.Whole.{most_cuts}
use Rattle.built.specs.Boxes.{meeting, boxes_of}
use Rattle.built.specs.CutValues.{stops}
use Rattle.built.specs.Trees.{Tree, bud, leaf, cut, grown}
use Rattle.built.specs.Layout.{size}
use Rattle.built.specs.Stops.{up_to}
use Rattle.built.specs.BuiltTree.{built_tree, built_nodes, built_pool}
use Rattle.built.proofs.Lying.{Lies, laid_lies}
use Rattle.built.proofs.FullTrees.{Full, full_leaf, full_cut, full_till}
use Rattle.built.proofs.Stopping.{up_to_bud, up_to_end, up_to_leaf, up_to_cut}
use Rattle.built.proofs.Meeting.{meeting_iff, meeting_rises, meeting_at_most, length_boxes, box_of_rule}
use Rattle.built.proofs.Chosen.{chosen_there, chosen_divides}
use Rattle.built.proofs.GrownTrees.{grown_zero, grown_stops, grown_divided}

-- the entries of a leaf whose box is b: they rise, they are rules, and no rule that meets b is lacking
pub record ListsRules (rs : List ℕ) (b : List (List ℕ)) (l : List ℕ) : Type 0 where
  pub rising : rises 0 l ≡ true
  pub few : length l ≤ rule_count rs
  pub rules : (y : ℕ) → has l y ≡ true → y < rule_count rs
  pub none_lacking : (r : ℕ) → r < rule_count rs → meets field_count (rule_box rs r) b ≡ true → has l r ≡ true

-- the tree covers the rules in box b, with at most k cuts above a leaf: a leaf lists the rules, and a cut is of a field
-- whose value divides b, its parts covering the rules in the two sides; so far, parts may be not begun
pub data Covers (far : Bool) (rs : List ℕ) : ℕ → List (List ℕ) → Tree → Type 0 where
  by_bud : {k : ℕ} {b : List (List ℕ)} → far ≡ true → Covers far rs k b bud
  by_leaf : {k : ℕ} {b : List (List ℕ)} {l : List ℕ} → ListsRules rs b l → Covers far rs k b (leaf l)
  by_cut :
      {k : ℕ} {b : List (List ℕ)} {f v : ℕ} {x y : Tree} → f < field_count → divides b f v ≡ true →
      Covers far rs k (left_of b f v) x → Covers far rs k (right_of b f v) y → Covers far rs (suc k) b (cut f v x y)

-- a tree that covers the rules is full
pub covers_full : {rs : List ℕ} {k : ℕ} {b : List (List ℕ)} {t : Tree} → Covers false rs k b t → Full t
covers_full (by_bud e) = let z : ◌≡◌ {A = ℕ} 0 1 = cc in absurd (omega arith)
covers_full (by_leaf w) = full_leaf
covers_full (by_cut u d p r) = full_cut (covers_full p) (covers_full r)

-- what is grown of it before a node covers the rules so far
pub covers_up_to :
    {rs : List ℕ} {k : ℕ} {b : List (List ℕ)} {t : Tree} (e : ℕ) → Covers false rs k b t → (i : ℕ) →
    Covers true rs k b (up_to e t i)
covers_up_to e (by_bud f) i = rw (up_to_bud e i) (by_bud refl)
covers_up_to {rs} e (by_leaf {k = k} {b = b} {l = l} w) i = go (within_or_over e i)
  where
    go : WithinOrOver e i → Covers true rs k b (up_to e (leaf l) i)
    go (at_most h) = rw (up_to_end e (leaf l) i h) (by_bud refl)
    go (over h) = rw (up_to_leaf e l i h) (by_leaf w)
covers_up_to {rs} e (by_cut {k = k} {b = b} {f = f} {v = v} {x = x} {y = y} u d p r) i =
    go (covers_up_to e p (i + 1)) (covers_up_to e r (i + 1 + size x)) (within_or_over e i)
  where
    go :
        Covers true rs k (left_of b f v) (up_to e x (i + 1)) →
        Covers true rs k (right_of b f v) (up_to e y (i + 1 + size x)) → WithinOrOver e i →
        Covers true rs (suc k) b (up_to e (cut f v x y) i)
    go p' r' (at_most h) = rw (up_to_end e (cut f v x y) i h) (by_bud refl)
    go p' r' (over h) = rw (up_to_cut e f v x y i h) (by_cut u d p' r')

module _ (rs : List ℕ) where
  -- the rules that meet a box are listed so
  meeting_lists : (b : List (List ℕ)) → ListsRules rs b (meeting field_count (boxes_of rs) b)
  meeting_lists b =
      record {
        rising = meeting_rises field_count (boxes_of rs) b;
        few = omega (arith, meeting_at_most field_count (boxes_of rs) b, length_boxes rs);
        rules = λ y e. rw (← length_boxes rs) ((meeting_iff field_count (boxes_of rs) b y).0 e).0;
        none_lacking =
            λ r l m.
            (meeting_iff field_count (boxes_of rs) b r).1 (rw (length_boxes rs) l, rw (box_of_rule rs r l) m);
      }

  -- the tree of a box covers the rules in it
  pub grown_covers : (k : ℕ) (b : List (List ℕ)) → Covers false rs k b (grown k field_count (boxes_of rs) b)
  grown_covers zero b = rw (grown_zero field_count (boxes_of rs) b) (by_leaf (meeting_lists b))
  grown_covers (suc k) b = go (stops field_count (boxes_of rs) b) refl (λ d. grown_covers k d)
    where
      go :
          (t : Bool) → stops field_count (boxes_of rs) b ≡ t →
          ((d : List (List ℕ)) → Covers false rs k d (grown k field_count (boxes_of rs) d)) →
          Covers false rs (suc k) b (grown (suc k) field_count (boxes_of rs) b)
      go true e r = rw (grown_stops field_count (boxes_of rs) b k e) (by_leaf (meeting_lists b))
      go false e r =
          rw (grown_divided field_count (boxes_of rs) b k e)
          (by_cut (chosen_there field_count (boxes_of rs) b (omega arith)) (chosen_divides field_count (boxes_of rs) b e)
          (r _) (r _))

  -- the tree that is built covers the rules in the root's box
  pub built_covers : Covers false rs most_cuts root_box (built_tree rs)
  unfolding built_tree
  built_covers = grown_covers most_cuts root_box

  -- it lies in its words
  pub built_lies : Lies (built_nodes rs) (built_pool rs) (built_tree rs) 0 0
  built_lies = laid_lies (built_tree rs) (full_till (covers_full built_covers) (size (built_tree rs)) 0)
