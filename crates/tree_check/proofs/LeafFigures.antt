-- The figures of an accepted tree are the most cuts above a leaf, and the longest leaf.
use Rattle.tree_check.specs.declared.preorder.Lack.{Lack}
use Rattle.tree_check.specs.Said.{Accepted}
use Rattle.std.specs.Prelude.{Option}
use Prim.Native.Nat.{ℕ, ◌+◌, ◌≤◌, ◌<◌}
use native.Mathlib.Omega.{arith}
use mathlib.Core.Bool.{false, false≢true}
use mathlib.Core.Path.{◌≡◌}
use mathlib.Core.List.{List, []}
use Rattle.facts.proofs.Cases.{WithinOrOver, at_most, over, within_or_over}
use Rattle.trees.specs.Words.{leaf_mark, field_of}
use Rattle.tree_check.specs.Leads.{left_box, right_box, here}
use Rattle.tree_check.specs.TreeCheck.{TreeChecked}
use Rattle.tree_check.specs.Figures.{LeafFigures}
use Rattle.tree_check.proofs.Built.{Built, of_none, of_leaf, of_cut, built_forward}
use Rattle.tree_check.proofs.Ways.{Way, way_left, way_right}
use Rattle.tree_check.proofs.Bounds.{bounds, deepest, longest}
use Rattle.tree_check.proofs.Stages.{formed}
use Rattle.tree_check.proofs.Answers.{accepted_means}

module _ {rs nodes pool : List ℕ} where
  -- some way in a built part of a whole tree comes to each of its leaves
  way_to :
      {k : ℕ} {b : List (List ℕ)} {i e c l : ℕ} {y : Option Lack} → Built false rs nodes pool k b i e c l y → (x : ℕ) →
      leaf_mark ≤ field_of nodes x → i ≤ x → x < e → (w : Way nodes b i) × (w.at ≡ x)
  way_to (of_none z a) x f from below = absurd (false≢true z)
  way_to (of_leaf a g r) x f from below =
      (record { cuts = []; at = _; box = _; leads = here a g }, omega arith)
  way_to (of_cut {b = b} {i = i} {m = m} {e = e} d s n r) x f from below =
      go (within_or_over m x) (λ a z. way_to s x f a z) (λ a z. way_to r x f a z)
    where
      other : x ≡ i → ⊥
      other q = let g : leaf_mark ≤ field_of nodes i = rw q at f in omega (arith, d.field)

      go :
          WithinOrOver m x → (i + 1 ≤ x → x < m → (w : Way nodes (left_box nodes b i) (i + 1)) × (w.at ≡ x)) →
          (m ≤ x → x < e → (w : Way nodes (right_box nodes b i) m) × (w.at ≡ x)) →
          (w : Way nodes b i) × (w.at ≡ x)
      go (at_most o) p q = let u = q o below in (way_right d n (omega (arith, built_forward s)) u.0, u.1)
      go (over o) p q =
          let apart : x ≡ i → ⊥ = other in let u = p (omega arith) o in (way_left d u.0, u.1)

-- the figures of an accepted tree bound each leaf, and each is met by one
pub accepted_leaves :
    (rs nodes pool : List ℕ) (c l : ℕ) → TreeChecked rs nodes pool (Accepted c l) → LeafFigures nodes pool c l
accepted_leaves rs nodes pool c l p =
    let root = (formed (accepted_means rs nodes pool p)).root in
    let deep = deepest root in
    let long = longest root in
    record {
      each = λ x there mark.
          let w = way_to root x (omega arith) (omega arith) there in
          (w.0.cuts, w.0.box, rw w.1 at w.0.leads);
      most = λ x cuts d w. let b = bounds root w in (b.cuts_most, b.entries_most);
      cuts_met = (deep.0.at, deep.0.cuts, deep.0.box, deep.0.leads, deep.1);
      entries_met = (long.0.at, long.0.cuts, long.0.box, long.0.leads, long.1);
    }
