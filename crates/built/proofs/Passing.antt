-- A tree that covers the rules passes the preorder check, wherever it lies, and lacks nothing; and so does one that
-- covers them so far, parts of it being not begun.
use Rattle.tree_check.specs.Said.{Complete, Good}
use Prim.Native.Nat.{ℕ, suc, ◌+◌, ◌≤◌, ◌<◌, max}
use native.Mathlib.Omega.{arith}
use mathlib.Core.Bool.{Bool, true, false}
use mathlib.Core.Path.{◌≡◌, refl, sym, ◌∙◌}
use mathlib.Core.List.{List}
use lib.ListN.{length}
use borrow.Author.Tests.{lt-ltb, le-ltb, eq-eqb}
use Rattle.fields.specs.Words.{field_count}
use Rattle.fields.specs.Cuts.{divides, left_of, right_of}
use Rattle.rules.proofs.Lacks.{none_lacking_iff}
use Rattle.trees.specs.Words.{leaf_mark, node_count, field_of, value_of, child_of, entries}
use Rattle.tree_check.specs.Preorder.{child_at, leaf_part, preorder_of}
use Rattle.tree_check.proofs.Parts.{preorder_missing, preorder_leaf, preorder_divided}
use Rattle.tree_check.proofs.Leaves.{entries_rise, lack_none}
use Rattle.built.specs.Trees.{Tree}
use Rattle.built.specs.Layout.{size, right_child}
use Rattle.built.proofs.Lying.{Lies, a_bud, a_leaf, a_cut}
use Rattle.built.proofs.Covering.{ListsRules, Covers, by_bud, by_leaf, by_cut}

-- the check of the part that begins at node i accepts it up to e, and it lacks nothing
pub record PartPasses (far : Bool) (rs nodes pool : List ℕ) (k : ℕ) (b : List (List ℕ)) (i e : ℕ) : Type 0 where
  pub cuts : ℕ
  pub longest : ℕ
  pub says : preorder_of far k rs nodes pool b i ≡ Good e cuts longest Complete

-- entries that lack nothing are a part of one node that lacks nothing
listed_leaf :
    (rs : List ℕ) (b : List (List ℕ)) (l : List ℕ) (i : ℕ) → ListsRules rs b l →
    leaf_part rs l b i ≡ Good (i + 1) 0 (length l) Complete
listed_leaf rs b l i w =
    let none = (none_lacking_iff rs l b).1 w.none_lacking in
    sym (entries_rise rs l b i (sym w.rising) refl (lack_none rs l b i (omega arith)))

-- a right part that is there begins at the right child, and one that is not begun has 0
child_there : (far : Bool) (m j : ℕ) → j < m → child_at far m j ≡ j
child_there true m j h = rw (lt-ltb j m h)
child_there false m j h = refl

child_none : (far : Bool) (m j : ℕ) → far ≡ true → m ≤ j → child_at far m j ≡ 0
child_none true m j e h = rw (le-ltb j m h)
child_none false m j e h = let z : ◌≡◌ {A = ℕ} 0 1 = cc in absurd (omega arith)

module _ (far : Bool) (rs nodes pool : List ℕ) where
  -- the right child of a cut is where its right part begins, as the check asks
  child_at_lem :
      {k j s : ℕ} {b : List (List ℕ)} {y : Tree} → Covers far rs k b y → Lies nodes pool y j s →
      right_child y j ≡ child_at far (node_count nodes) j
  unfolding right_child
  child_at_lem (by_bud e) (a_bud {i = j} n) = sym (child_none far (node_count nodes) j e (omega arith))
  child_at_lem (by_leaf w) (a_leaf {i = j} there f s c u e) = sym (child_there far (node_count nodes) j there)
  child_at_lem (by_cut u d p q) (a_cut {i = j} there f v c left right) = sym (child_there far (node_count nodes) j there)

  bud_passes :
      {k i : ℕ} {b : List (List ℕ)} → far ≡ true → node_count nodes ≤ i → PartPasses far rs nodes pool k b i i
  bud_passes {k} {i} {b} e h =
      record { cuts = 0; longest = 0; says = preorder_missing far rs nodes pool b i k h ∙ rw e }

  module _ {k i : ℕ} {b : List (List ℕ)} (there : i < node_count nodes) where
    leaf_passes :
        {l : List ℕ} → ListsRules rs b l → field_of nodes i ≡ leaf_mark → entries nodes pool i ≡ l →
        PartPasses far rs nodes pool k b i (i + 1)
    leaf_passes {l} w f e =
        record {
          cuts = 0;
          longest = length l;
          says = preorder_leaf far rs nodes pool b i there k (omega arith) ∙ rw e (listed_leaf rs b l i w);
        }

    cut_passes :
        {f v m e : ℕ} → f < field_count → divides b f v ≡ true → field_of nodes i ≡ f → value_of nodes i ≡ v →
        child_of nodes i ≡ child_at far (node_count nodes) m → PartPasses far rs nodes pool k (left_of b f v) (i + 1) m →
        PartPasses far rs nodes pool k (right_of b f v) m e → PartPasses far rs nodes pool (suc k) b i e
    cut_passes {m = m} u d ef ev ec p r =
        record {
          cuts = max p.cuts r.cuts + 1;
          longest = max p.longest r.longest;
          says =
              preorder_divided far rs nodes pool b i there (omega arith) k (rw (ef, ev) d) ∙
              rw (ef, ev, p.says, eq-eqb (child_of nodes i) (child_at far (node_count nodes) m) ec, r.says);
        }

  -- a tree that covers the rules passes the check as a part that ends behind its last node
  pub covers_passes :
      {k i s : ℕ} {b : List (List ℕ)} {t : Tree} → Covers far rs k b t → Lies nodes pool t i s →
      PartPasses far rs nodes pool k b i (i + size t)
  unfolding size
  covers_passes (by_bud e) (a_bud {i = i} n) =
      let same : i + 0 ≡ i = omega arith in rw same (bud_passes e (omega arith))
  covers_passes (by_leaf w) (a_leaf there f s c u e) = leaf_passes there w f e
  covers_passes (by_cut u d p q) (a_cut {i = i} {x = x} {y = y} there f v c left right) =
      let behind : i + (1 + size x + size y) ≡ i + 1 + size x + size y = omega arith in
      cut_passes there u d f v (c ∙ child_at_lem q right) (covers_passes p left) (rw behind (covers_passes q right))
