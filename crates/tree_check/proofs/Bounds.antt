-- The figures of a built part: they bound the way to each of its leaves, and ways meet them.
use Rattle.tree_check.specs.declared.preorder.Lack.{Lack}
use Rattle.std.specs.Prelude.{Option}
use Prim.Native.Nat.{ℕ, ◌+◌, ◌≤◌, ◌<◌, max}
use native.Mathlib.Nat.{max-eq_left, max-eq_right, le_of_lt}
use native.Mathlib.Omega.{arith}
use mathlib.Core.Bool.{Bool, true, false, false≢true}
use mathlib.Core.Path.{◌≡◌, refl, sym, ◌∙◌}
use mathlib.Core.List.{List, [], ◌∷◌}
use lib.ListN.{length}
use Rattle.facts.specs.Lists.{rises}
use Rattle.facts.proofs.Cases.{WithinOrOver, at_most, over, within_or_over}
use Rattle.trees.specs.Words.{leaf_mark, node_count, field_of, entries}
use Rattle.tree_check.specs.Leads.{left_box, right_box, Leads, here, to_left, to_right}
use Rattle.tree_check.proofs.Built.{Built, of_none, of_leaf, of_cut, built_forward}
use Rattle.tree_check.proofs.Begun.{leads_there, from_child}
use Rattle.tree_check.proofs.Ways.{Way, way_left, way_right}

-- of a part from i to e with the figures c and l: leaf x past these cuts is one of its leaves, within both figures
pub record Bounded (nodes pool : List ℕ) (i e c l : ℕ) (cuts : List ℕ) (x : ℕ) : Type 0 where
  pub cuts_most : length cuts ≤ c
  pub entries_most : length (entries nodes pool x) ≤ l
  pub before : i + length cuts < e
  pub from : i ≤ x
  pub below : x < e
  pub there : x < node_count nodes
  pub mark : leaf_mark ≤ field_of nodes x
  pub rising : rises 0 (entries nodes pool x) ≡ true

at_leaf :
    {nodes pool : List ℕ} {i : ℕ} → i < node_count nodes → leaf_mark ≤ field_of nodes i →
    rises 0 (entries nodes pool i) ≡ true → Bounded nodes pool i (i + 1) 0 (length (entries nodes pool i)) [] i
at_leaf a f r =
    record {
      cuts_most = omega arith;
      entries_most = omega arith;
      before = omega arith;
      from = omega arith;
      below = omega arith;
      there = a;
      mark = f;
      rising = r;
    }

module _ {nodes pool : List ℕ} {i e j m c l c' l' x : ℕ} {cuts : List ℕ} where
  -- what bounds a way in one side of a cut bounds it from the cut on
  wider :
      Bounded nodes pool j m c l cuts x → i < j → m ≤ e → c ≤ c' → l ≤ l' →
      Bounded nodes pool i e (c' + 1) l' (i ∷ cuts) x
  wider q u v p r =
      record {
        cuts_most = omega (arith, q.cuts_most);
        entries_most = omega (arith, q.entries_most);
        before = omega (arith, q.before);
        from = omega (arith, q.from);
        below = omega (arith, q.below);
        there = q.there;
        mark = q.mark;
        rising = q.rising;
      }

-- the figures of a built part bound each way in it
pub bounds :
    {far : Bool} {rs nodes pool : List ℕ} {k : ℕ} {b d : List (List ℕ)} {i e c l x : ℕ} {y : Option Lack} {cuts : List ℕ} →
    Built far rs nodes pool k b i e c l y → Leads nodes b i cuts x d → Bounded nodes pool i e c l cuts x
bounds (of_none q a) w = absurd (omega (arith, leads_there w))
bounds (of_leaf a f r) (here u g) = at_leaf a f r
bounds (of_leaf a f r) (to_left d w) = absurd (omega (arith, d.field))
bounds (of_leaf a f r) (to_right d o w) = absurd (omega (arith, d.field))
bounds (of_cut d s q r) (here u g) = absurd (omega (arith, d.field))
bounds (of_cut d s q r) (to_left d' w) =
    wider (bounds s w) (omega arith) (omega (arith, built_forward r)) (omega arith) (omega arith)
bounds {far = far} (of_cut d s q r) (to_right d' o w) =
    wider (bounds r (from_child far _ q o w)) (omega (arith, built_forward s)) (omega arith) (omega arith) (omega arith)

module _ {rs nodes pool : List ℕ} where
  -- some way in a built part of a whole tree passes as many cuts as its figure says
  pub deepest :
      {k : ℕ} {b : List (List ℕ)} {i e c l : ℕ} {y : Option Lack} → Built false rs nodes pool k b i e c l y →
      (w : Way nodes b i) × (length w.cuts ≡ c)
  deepest (of_none z a) = absurd (false≢true z)
  deepest (of_leaf a f r) = (record { cuts = []; at = _; box = _; leads = here a f }, refl)
  deepest (of_cut {b = b} {i = i} {m = m} {c₁ = c₁} {c₂ = c₂} d s n r) =
      go (within_or_over c₂ c₁) (deepest s) (deepest r)
    where
      go :
          WithinOrOver c₂ c₁ → (w : Way nodes (left_box nodes b i) (i + 1)) × (length w.cuts ≡ c₁) →
          (w : Way nodes (right_box nodes b i) m) × (length w.cuts ≡ c₂) →
          (w : Way nodes b i) × (length w.cuts ≡ max c₁ c₂ + 1)
      go (at_most o) p q = (way_left d p.0, omega (arith, p.1, max-eq_left o))
      go (over o) p q =
          (way_right d n (omega (arith, built_forward s)) q.0, omega (arith, q.1, max-eq_right (le_of_lt o)))

  -- some way in a built part of a whole tree comes to a leaf with as many entries as its figure says
  pub longest :
      {k : ℕ} {b : List (List ℕ)} {i e c l : ℕ} {y : Option Lack} → Built false rs nodes pool k b i e c l y →
      (w : Way nodes b i) × (length (entries nodes pool w.at) ≡ l)
  longest (of_none z a) = absurd (false≢true z)
  longest (of_leaf a f r) = (record { cuts = []; at = _; box = _; leads = here a f }, refl)
  longest (of_cut {b = b} {i = i} {m = m} {l₁ = l₁} {l₂ = l₂} d s n r) =
      go (within_or_over l₂ l₁) (longest s) (longest r)
    where
      go :
          WithinOrOver l₂ l₁ →
          (w : Way nodes (left_box nodes b i) (i + 1)) × (length (entries nodes pool w.at) ≡ l₁) →
          (w : Way nodes (right_box nodes b i) m) × (length (entries nodes pool w.at) ≡ l₂) →
          (w : Way nodes b i) × (length (entries nodes pool w.at) ≡ max l₁ l₂)
      go (at_most o) p q = (way_left d p.0, p.1 ∙ sym (max-eq_left o))
      go (over o) p q =
          (way_right d n (omega (arith, built_forward s)) q.0, q.1 ∙ sym (max-eq_right (le_of_lt o)))
