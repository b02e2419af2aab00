-- Where headers come to, in a tree whose root's part is built: each to one leaf, and it lies in that leaf's box.
use Rattle.tree_check.specs.declared.preorder.Lack.{Lack}
use Rattle.std.specs.Prelude.{Option}
use Prim.Native.Nat.{ℕ}
use native.Mathlib.Omega.{arith}
use mathlib.Core.Bool.{false}
use mathlib.Core.Path.{◌≡◌, ap}
use mathlib.Core.List.{List}
use lib.ListN.{length}
use Rattle.fields.specs.Words.{field_count}
use Rattle.fields.specs.Headers.{Legal}
use Rattle.fields.specs.Boxes.{Inside, Full, root_box}
use Rattle.fields.proofs.Boxes.{CommonPoint, overlap_iff, meets_iff_common_point}
use Rattle.fields.proofs.Root.{root_pairs, root_full, legal_iff_in_root}
use Rattle.rules.specs.Words.{rule_count, largest_action}
use Rattle.rules.proofs.Lists.{GoodRules}
use Rattle.trees.specs.Words.{node_count, entries}
use Rattle.trees.specs.Spelt.{SpeltLeaf, Spelt}
use Rattle.trees.specs.Walk.{Walk, came, walk_of, leaf_of}
use Rattle.trees.specs.Search.{leaf_list}
use Rattle.tree_check.specs.Whole.{most_cuts}
use Rattle.tree_check.specs.Leads.{Leads}
use Rattle.tree_check.proofs.Built.{Built}
use Rattle.tree_check.proofs.Ways.{WayOf, find, leads_full, leads_inside}
use Rattle.tree_check.proofs.Bounds.{Bounded, bounds}
use Rattle.tree_check.proofs.Walks.{leads_walk}

-- a good list, and a tree that is spelt and whose root's part is built, with these figures and this lack
pub record Formed (rs nodes pool : List ℕ) (c l : ℕ) (y : Option Lack) : Type 0 where
  pub good : GoodRules largest_action rs
  pub spelt : Spelt (rule_count rs) nodes pool
  pub root : Built false rs nodes pool most_cuts root_box 0 (node_count nodes) c l y

-- a box that is not empty has a point
pub point_of : (b : List (List ℕ)) → Full field_count b → CommonPoint field_count b b
point_of b f =
    (meets_iff_common_point field_count b b f f).0 ((overlap_iff field_count b b).1 (λ g l. (f g l, f g l)))

module _ {rs nodes pool : List ℕ} {c l : ℕ} {y : Option Lack} (t : Formed rs nodes pool c l y) where
  -- a legal header lies in the box of some leaf
  pub finds : (h : List ℕ) → Legal h → WayOf nodes root_box 0 h
  finds h k = find t.root root_pairs h ((legal_iff_in_root h).0 k).1

  module _ {cuts : List ℕ} {x : ℕ} {d : List (List ℕ)} (w : Leads nodes root_box 0 cuts x d) where
    -- the figures bound the way to each leaf
    pub bounded : Bounded nodes pool 0 (node_count nodes) c l cuts x
    bounded = bounds t.root w

    -- a leaf is spelt
    pub leaf_of_lem : SpeltLeaf (rule_count rs) nodes pool x
    leaf_of_lem = t.spelt.leaf x bounded.there bounded.mark

    -- a leaf's box is not empty
    pub box_full : Full field_count d
    box_full = leads_full w root_pairs root_full

    module _ (h : List ℕ) (inside : Inside field_count d h) where
      -- a header of five words in a leaf's box is legal
      pub legal : length h ≡ field_count → Legal h
      legal e = (legal_iff_in_root h).1 (e, leads_inside w root_pairs h inside)

      -- a header in a leaf's box comes to that leaf, past the cuts of the way
      pub comes : walk_of nodes h ≡ came cuts x
      unfolding walk_of
      comes =
          leads_walk t.spelt.first t.root w root_pairs h inside (node_count nodes)
          (omega (arith, bounded.before))

      -- its list is the leaf's
      pub list_is : leaf_list nodes pool h ≡ entries nodes pool x
      unfolding leaf_list
      list_is = ap (λ (v : Walk). entries nodes pool (leaf_of v)) comes
