-- The ways from a node to the leaves of a box: a leaf's box lies in the first, and each header of the first lies in the
-- box of one leaf.
use Rattle.tree_check.specs.declared.preorder.Lack.{Lack}
use Rattle.std.specs.Prelude.{Option}
use Prim.Native.Nat.{ℕ, ◌+◌, ◌≤◌, ◌<◌}
use native.Mathlib.Omega.{arith}
use mathlib.Core.Bool.{false, false≢true}
use mathlib.Core.Path.{◌≡◌}
use mathlib.Core.List.{List, [], ◌∷◌}
use lib.ListN.{get_or}
use Rattle.facts.proofs.Cases.{WithinOrOver, at_most, over, within_or_over}
use Rattle.fields.specs.Words.{field_count}
use Rattle.fields.specs.Boxes.{Pairs, Inside, Full}
use Rattle.fields.proofs.Cutting.{pairs_left, pairs_right, inside_left, inside_right, left_inside, right_inside}
use Rattle.fields.proofs.Cutting.{full_left, full_right}
use Rattle.trees.specs.Words.{field_of, value_of, child_of}
use Rattle.tree_check.specs.Leads.{left_box, right_box, Divides, Leads, here, to_left, to_right}
use Rattle.tree_check.proofs.Built.{Built, of_none, of_leaf, of_cut, built_forward}
use Rattle.tree_check.proofs.Begun.{to_child}

-- a way from node i, its box being b, with the leaf that it comes to and that leaf's box
pub record Way (nodes : List ℕ) (b : List (List ℕ)) (i : ℕ) : Type 0 where
  pub cuts : List ℕ
  pub at : ℕ
  pub box : List (List ℕ)
  pub leads : Leads nodes b i cuts at box

module _ {nodes : List ℕ} {b : List (List ℕ)} {i : ℕ} (d : Divides nodes b i) where
  -- a cut's left part has n pairs where its box has
  pub left_pairs : Pairs field_count b → Pairs field_count (left_box nodes b i)
  left_pairs p = pairs_left field_count b p (field_of nodes i) (value_of nodes i) d.field

  -- so has its right part
  pub right_pairs : Pairs field_count b → Pairs field_count (right_box nodes b i)
  right_pairs p = pairs_right field_count b p (field_of nodes i) (value_of nodes i) d.field

  -- a header of a cut's left part lies in the cut's box, and its field is at most the value
  pub from_left :
      Pairs field_count b → (h : List ℕ) → Inside field_count (left_box nodes b i) h →
      Inside field_count b h × (get_or h (field_of nodes i) 0 ≤ value_of nodes i)
  from_left p h q = left_inside field_count b p (field_of nodes i) (value_of nodes i) d.field d.high h q

  -- a header of its right part lies in the cut's box, and its field is over the value
  pub from_right :
      Pairs field_count b → (h : List ℕ) → Inside field_count (right_box nodes b i) h →
      Inside field_count b h × (value_of nodes i < get_or h (field_of nodes i) 0)
  from_right p h q = right_inside field_count b p (field_of nodes i) (value_of nodes i) d.field d.low h q

  -- a way from the left part is a way from the cut
  abbrev pub way_left : Way nodes (left_box nodes b i) (i + 1) → Way nodes b i
  way_left w = record { cuts = i ∷ w.cuts; at = w.at; box = w.box; leads = to_left d w.leads }

  -- in a whole tree so is a way from the right part
  abbrev pub way_right : {m : ℕ} → child_of nodes i ≡ m → i < m → Way nodes (right_box nodes b i) m → Way nodes b i
  way_right q l w =
      record { cuts = i ∷ w.cuts; at = w.at; box = w.box; leads = to_child false d q l w.leads }

module _ {nodes : List ℕ} where
  -- a leaf's box has five pairs where the first box has
  pub leads_pairs :
      {b d : List (List ℕ)} {i x : ℕ} {cuts : List ℕ} → Leads nodes b i cuts x d →
      Pairs field_count b → Pairs field_count d
  leads_pairs (here a f) p = p
  leads_pairs (to_left d w) p = leads_pairs w (left_pairs d p)
  leads_pairs (to_right d o w) p = leads_pairs w (right_pairs d p)

  -- a leaf's box is not empty where the first box is not
  pub leads_full :
      {b d : List (List ℕ)} {i x : ℕ} {cuts : List ℕ} → Leads nodes b i cuts x d → Pairs field_count b →
      Full field_count b → Full field_count d
  leads_full (here a f) p q = q
  leads_full (to_left d w) p q =
      leads_full w (left_pairs d p) (full_left field_count _ p _ _ d.field d.low q)
  leads_full (to_right d o w) p q =
      leads_full w (right_pairs d p) (full_right field_count _ p _ _ d.field d.high q)

  -- a header of a leaf's box lies in the first box
  pub leads_inside :
      {b d : List (List ℕ)} {i x : ℕ} {cuts : List ℕ} → Leads nodes b i cuts x d → Pairs field_count b →
      (h : List ℕ) → Inside field_count d h → Inside field_count b h
  leads_inside (here a f) p h q = q
  leads_inside (to_left d w) p h q = (from_left d p h (leads_inside w (left_pairs d p) h q)).0
  leads_inside (to_right d o w) p h q = (from_right d p h (leads_inside w (right_pairs d p) h q)).0

-- a way from node i, its box being b, to a leaf in whose box header h lies
abbrev pub WayOf : List ℕ → List (List ℕ) → ℕ → List ℕ → Type 0
WayOf nodes b i h = (w : Way nodes b i) × Inside field_count w.box h

-- in a built part of a whole tree each header of its box lies in the box of a leaf
pub find :
    {rs nodes pool : List ℕ} {k : ℕ} {b : List (List ℕ)} {i e c l : ℕ} {y : Option Lack} →
    Built false rs nodes pool k b i e c l y → Pairs field_count b → (h : List ℕ) → Inside field_count b h →
    WayOf nodes b i h
find (of_none z a) p h q = absurd (false≢true z)
find (of_leaf a f r) p h q = (record { cuts = []; at = _; box = _; leads = here a f }, q)
find {nodes = nodes} (of_cut {b = b} {i = i} {m = m} d s n r) p h q =
    go (within_or_over (get_or h (field_of nodes i) 0) (value_of nodes i))
    (λ o. find s (left_pairs d p) h (inside_left field_count b p _ _ d.field h q o))
    (λ o. find r (right_pairs d p) h (inside_right field_count b p _ _ d.field h q o))
  where
    go :
        WithinOrOver (get_or h (field_of nodes i) 0) (value_of nodes i) →
        (get_or h (field_of nodes i) 0 ≤ value_of nodes i → WayOf nodes (left_box nodes b i) (i + 1) h) →
        (value_of nodes i < get_or h (field_of nodes i) 0 → WayOf nodes (right_box nodes b i) m h) → WayOf nodes b i h
    go (at_most o) x z = let t = x o in (way_left d t.0, t.1)
    go (over o) x z = let t = z o in (way_right d n (omega (arith, built_forward s)) t.0, t.1)
