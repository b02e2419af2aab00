-- What the check of a part accepts, with its figures, as a family: what it says is built so.
use Rattle.tree_check.specs.declared.preorder.Part.{Part}
use Rattle.tree_check.specs.declared.preorder.Lack.{Lack}
use Rattle.tree_check.specs.Said.{Complete, Good}
use Rattle.std.specs.Prelude.{Err, Option, Result, Ok}
use Prim.Native.Nat.{ℕ, zero, suc, ◌+◌, ◌≤◌, ◌<◌, max}
use native.Mathlib.Omega.{arith}
use mathlib.Core.Bool.{Bool, true, false}
use mathlib.Core.Path.{◌≡◌, refl, subst}
use mathlib.Core.Logic.{◌⊎◌, inl, inr}
use mathlib.Core.List.{List}
use lib.ListN.{length}
use lib.Dec.{eqb}
use borrow.Author.Tests.{eqb-true}
use Rattle.facts.specs.Lists.{rises}
use Rattle.facts.proofs.Bools.{sure}
use Rattle.facts.proofs.Cases.{WithinOrOver, at_most, over, within_or_over}
use Rattle.refusals.specs.declared.Refusal.{Refusal}
use Rattle.fields.specs.Cuts.{divides}
use Rattle.fields.proofs.Cuts.{divides_iff}
use Rattle.trees.specs.Words.{leaf_mark, node_count, field_of, value_of, child_of, entries}
use Rattle.tree_check.specs.Preorder.{lack_of, earlier, no_part, child_at, after_left, leaf_part}
use Rattle.tree_check.specs.Preorder.{preorder_of}
use Rattle.tree_check.specs.Leads.{left_box, right_box, Divides}
use Rattle.tree_check.proofs.NotLack.{Malformed, six, seven}
use Rattle.tree_check.proofs.Parts.{leaf_rising, leaf_not_rising, preorder_missing, preorder_leaf}
use Rattle.tree_check.proofs.Parts.{preorder_deep, preorder_undivided, preorder_divided}

-- the part that begins at node i, for box b, with at most k cuts above a leaf: it ends at e, with c cuts above its
-- deepest leaf, l entries in its longest, and y the first lack. So far it may be a part that is not begun
pub data Built (far : Bool) (rs nodes pool : List ℕ) : ℕ → List (List ℕ) → ℕ → ℕ → ℕ → ℕ → Option Lack → Type 0 where
  of_none :
      {k : ℕ} {b : List (List ℕ)} {i : ℕ} → far ≡ true → node_count nodes ≤ i →
      Built far rs nodes pool k b i i 0 0 Complete
  of_leaf :
      {k : ℕ} {b : List (List ℕ)} {i : ℕ} → i < node_count nodes → leaf_mark ≤ field_of nodes i →
      rises 0 (entries nodes pool i) ≡ true →
      Built far rs nodes pool k b i (i + 1) 0 (length (entries nodes pool i)) (lack_of rs (entries nodes pool i) b i)
  of_cut :
      {k : ℕ} {b : List (List ℕ)} {i m e c₁ l₁ c₂ l₂ : ℕ} {y₁ y₂ : Option Lack} → Divides nodes b i →
      Built far rs nodes pool k (left_box nodes b i) (i + 1) m c₁ l₁ y₁ →
      child_of nodes i ≡ child_at far (node_count nodes) m → Built far rs nodes pool k (right_box nodes b i) m e c₂ l₂ y₂ →
      Built far rs nodes pool (suc k) b i e (max c₁ c₂ + 1) (max l₁ l₂) (earlier y₁ y₂)

module _ (far : Bool) (rs nodes pool : List ℕ) where
  -- what is said of a part: it is built so, or refused with 6 or 7
  abbrev BuiltSo : ℕ → List (List ℕ) → ℕ → Result Part Refusal → Type 0
  BuiltSo k b i (Err why) = Malformed why
  BuiltSo k b i (Ok p) = Built far rs nodes pool k b i p.next p.cuts p.longest p.lack

  leaf_built :
      (k : ℕ) (b : List (List ℕ)) (i : ℕ) → i < node_count nodes → leaf_mark ≤ field_of nodes i →
      BuiltSo k b i (leaf_part rs (entries nodes pool i) b i)
  leaf_built k b i a f = go (sure (rises 0 (entries nodes pool i)))
    where
      go :
          (rises 0 (entries nodes pool i) ≡ true) ⊎ (rises 0 (entries nodes pool i) ≡ false) →
          BuiltSo k b i (leaf_part rs (entries nodes pool i) b i)
      go (inl t) = rw (leaf_rising rs nodes pool b i t) (of_leaf a f t)
      go (inr t) = rw (leaf_not_rising rs nodes pool b i t) seven

  -- a cut after its left part, and then after its right
  cut_built :
      (k : ℕ) (b : List (List ℕ)) (i : ℕ) → Divides nodes b i → (left : Result Part Refusal) →
      BuiltSo k (left_box nodes b i) (i + 1) left → (right : ℕ → Result Part Refusal) →
      ((m : ℕ) → BuiltSo k (right_box nodes b i) m (right m)) →
      BuiltSo (suc k) b i (after_left far (node_count nodes) i (child_of nodes i) left right)
  cut_built k b i d (Err why) h right r = h
  cut_built k b i d (Ok left) h right r =
      go (eqb (child_of nodes i) (child_at far (node_count nodes) left.next)) refl (right left.next) refl (r left.next)
    where
      go :
          (t : Bool) → eqb (child_of nodes i) (child_at far (node_count nodes) left.next) ≡ t → (x : Result Part Refusal) →
          right left.next ≡ x → BuiltSo k (right_box nodes b i) left.next x →
          BuiltSo (suc k) b i (after_left far (node_count nodes) i (child_of nodes i) (Ok left) right)
      go false t x q s = rw t six
      go true t (Err why) q s = rw (t, q) s
      go true t (Ok p) q s = rw (t, q) (of_cut d h (eqb-true (child_of nodes i) _ t) s)

  divided_built :
      (k : ℕ) (b : List (List ℕ)) (i : ℕ) → i < node_count nodes → field_of nodes i < leaf_mark →
      ((d : List (List ℕ)) (j : ℕ) → BuiltSo k d j (preorder_of far k rs nodes pool d j)) →
      BuiltSo (suc k) b i (preorder_of far (suc k) rs nodes pool b i)
  divided_built k b i a f r = go (divides b (field_of nodes i) (value_of nodes i)) refl
    where
      go :
          (t : Bool) → divides b (field_of nodes i) (value_of nodes i) ≡ t →
          BuiltSo (suc k) b i (preorder_of far (suc k) rs nodes pool b i)
      go false t = rw (preorder_undivided far rs nodes pool b i a f k t) six
      go true t =
          let u = (divides_iff b (field_of nodes i) (value_of nodes i)).0 t in
          rw (preorder_divided far rs nodes pool b i a f k t)
          (cut_built k b i (record { there = a; field = f; low = u.0; high = u.1 })
          (preorder_of far k rs nodes pool (left_box nodes b i) (i + 1)) (r (left_box nodes b i) (i + 1))
          (preorder_of far k rs nodes pool (right_box nodes b i)) (r (right_box nodes b i)))

  missing_built :
      (t : Bool) → far ≡ t → (k : ℕ) (b : List (List ℕ)) (i : ℕ) → node_count nodes ≤ i → BuiltSo k b i (no_part t i)
  missing_built true q k b i a = of_none q a
  missing_built false q k b i a = six

  part_built : (k : ℕ) (b : List (List ℕ)) (i : ℕ) → BuiltSo k b i (preorder_of far k rs nodes pool b i)
  part_built zero b i = go (within_or_over (node_count nodes) i) (within_or_over leaf_mark (field_of nodes i))
    where
      go :
          WithinOrOver (node_count nodes) i → WithinOrOver leaf_mark (field_of nodes i) →
          BuiltSo 0 b i (preorder_of far 0 rs nodes pool b i)
      go (at_most a) s = rw (preorder_missing far rs nodes pool b i 0 a) (missing_built far refl 0 b i a)
      go (over a) (at_most f) = rw (preorder_leaf far rs nodes pool b i a 0 f) (leaf_built 0 b i a f)
      go (over a) (over f) = rw (preorder_deep far rs nodes pool b i a f) six
  part_built (suc k) b i =
      go (within_or_over (node_count nodes) i) (within_or_over leaf_mark (field_of nodes i)) (λ d j. part_built k d j)
    where
      go :
          WithinOrOver (node_count nodes) i → WithinOrOver leaf_mark (field_of nodes i) →
          ((d : List (List ℕ)) (j : ℕ) → BuiltSo k d j (preorder_of far k rs nodes pool d j)) →
          BuiltSo (suc k) b i (preorder_of far (suc k) rs nodes pool b i)
      go (at_most a) s r = rw (preorder_missing far rs nodes pool b i (suc k) a) (missing_built far refl (suc k) b i a)
      go (over a) (at_most f) r = rw (preorder_leaf far rs nodes pool b i a (suc k) f) (leaf_built (suc k) b i a f)
      go (over a) (over f) r = divided_built k b i a f r

  -- a part that the check accepts is built so
  pub built :
      {k : ℕ} {b : List (List ℕ)} {i e c l : ℕ} {y : Option Lack} → preorder_of far k rs nodes pool b i ≡ Good e c l y →
      Built far rs nodes pool k b i e c l y
  built {k} {b} {i} q = subst (λ (p : Result Part Refusal). BuiltSo k b i p) q (part_built k b i)

  -- a part that is refused is refused with 6 or 7
  pub part_malformed :
      (k : ℕ) (b : List (List ℕ)) (i : ℕ) (why : Refusal) → preorder_of far k rs nodes pool b i ≡ Err why →
      Malformed why
  part_malformed k b i why q = subst (λ (p : Result Part Refusal). BuiltSo k b i p) q (part_built k b i)

module _ {far : Bool} {rs nodes pool : List ℕ} where
  -- no leaf of a built part lies under more cuts than are allowed
  pub built_shallow :
      {k : ℕ} {b : List (List ℕ)} {i e c l : ℕ} {y : Option Lack} → Built far rs nodes pool k b i e c l y → c ≤ k
  built_shallow (of_none q a) = omega arith
  built_shallow (of_leaf a f r) = omega arith
  built_shallow (of_cut d p q r) = omega (arith, built_shallow p, built_shallow r)

  -- a built part does not end before it begins
  pub built_forward :
      {k : ℕ} {b : List (List ℕ)} {i e c l : ℕ} {y : Option Lack} → Built far rs nodes pool k b i e c l y → i ≤ e
  built_forward (of_none q a) = omega arith
  built_forward (of_leaf a f r) = omega arith
  built_forward (of_cut d p q r) = omega (arith, built_forward p, built_forward r)

-- the cuts above the deepest leaf of an accepted part are no more than are allowed
pub part_shallow :
    (far : Bool) (k : ℕ) (rs nodes pool : List ℕ) (b : List (List ℕ)) (i : ℕ) {e c l : ℕ} {y : Option Lack} →
    preorder_of far k rs nodes pool b i ≡ Good e c l y → c ≤ k
part_shallow far k rs nodes pool b i q = built_shallow (built far rs nodes pool q)
