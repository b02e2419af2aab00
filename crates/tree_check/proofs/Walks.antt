-- Walks in a built part: a header of a leaf's box walks the way to that leaf, and past the same cuts.
use Rattle.tree_check.specs.declared.preorder.Lack.{Lack}
use Rattle.std.specs.Prelude.{Option}
use Prim.Native.Nat.{ℕ, zero, suc, ◌<◌}
use native.Mathlib.Omega.{arith}
use mathlib.Core.Bool.{false, false≢true}
use mathlib.Core.Path.{◌≡◌, refl, sym}
use mathlib.Core.List.{List, [], ◌∷◌}
use lib.ListN.{length}
use Rattle.fields.specs.Words.{field_count}
use Rattle.fields.specs.Boxes.{Pairs, Inside}
use Rattle.trees.specs.declared.walk.Step.TheVariants.{Leaf}
use Rattle.trees.specs.Words.{leaf_mark, node_count, field_of, child_of}
use Rattle.trees.specs.Walk.{side_of, step_of, came, walk}
use Rattle.trees.proofs.Walking.{goes_left, goes_right, step_leaf, step_on}
use Rattle.tree_check.specs.Leads.{Leads, here, to_left, to_right}
use Rattle.tree_check.proofs.Built.{Built, of_none, of_leaf, of_cut, built_forward}
use Rattle.tree_check.proofs.Formed.{FirstWords}
use Rattle.tree_check.proofs.Begun.{from_child}
use Rattle.tree_check.proofs.Ways.{left_pairs, right_pairs, from_left, from_right, leads_inside}

module _ (nodes h : List ℕ) (k i : ℕ) where
  walk_here : Leaf ≡ step_of nodes h i → walk (suc k) nodes h i ≡ came [] i
  unfolding walk
  walk_here e = rw (← e)

  walk_on :
      {j x : ℕ} {cuts : List ℕ} → i < node_count nodes → field_of nodes i < leaf_mark → i < child_of nodes i →
      j ≡ side_of nodes h i → walk k nodes h j ≡ came cuts x → walk (suc k) nodes h i ≡ came (i ∷ cuts) x
  unfolding walk
  walk_on a f u e q = rw (← step_on nodes h i a f u e, q)

-- in a whole tree a header of a leaf's box walks to that leaf, past the cuts of the way, where as many nodes may be
-- visited
pub leads_walk :
    {rs nodes pool : List ℕ} {k : ℕ} {b d : List (List ℕ)} {i e c l x : ℕ} {y : Option Lack} {cuts : List ℕ} →
    FirstWords nodes → Built false rs nodes pool k b i e c l y → Leads nodes b i cuts x d → Pairs field_count b →
    (h : List ℕ) → Inside field_count d h → (n : ℕ) → length cuts < n → walk n nodes h i ≡ came cuts x
leads_walk first s w p h q zero l = absurd (omega arith)
leads_walk first (of_none z a) w p h q (suc n) l = absurd (false≢true z)
leads_walk {nodes = nodes} first (of_leaf {i = i} a f r) (here u g) p h q (suc n) l =
    walk_here nodes h n i (step_leaf nodes h i a (omega (arith, first i a)))
leads_walk first (of_leaf a f r) (to_left d w) p h q (suc n) l = absurd (omega (arith, d.field))
leads_walk first (of_leaf a f r) (to_right d o w) p h q (suc n) l = absurd (omega (arith, d.field))
leads_walk first (of_cut d s t r) (here u g) p h q (suc n) l = absurd (omega (arith, d.field))
leads_walk {nodes = nodes} first (of_cut {k = k} {i = i} d s t r) (to_left d' w) p h q (suc n) l =
    walk_on nodes h n i d.there d.field (omega (arith, built_forward s))
    (goes_left nodes h i refl refl (from_left d p h (leads_inside w (left_pairs d p) h q)).1)
    (leads_walk {k = k} first s w (left_pairs d p) h q n (omega arith))
leads_walk {nodes = nodes} first (of_cut {k = k} {i = i} d s t r) (to_right d' o w) p h q (suc n) l =
    walk_on nodes h n i d.there d.field (omega (arith, built_forward s))
    (goes_right nodes h i refl refl (from_right d p h (leads_inside w (right_pairs d p) h q)).1 (sym t))
    (leads_walk {k = k} first r (from_child false _ t o w) (right_pairs d p) h q n (omega arith))
