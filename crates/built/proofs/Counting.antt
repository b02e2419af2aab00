-- The counts of the leaves of a tree sum to its entries, wherever it lies.
use Prim.Native.Nat.{ℕ, ◌+◌, ◌<◌}
use native.Mathlib.Omega.{arith}
use mathlib.Core.Bool.{Bool}
use mathlib.Core.Path.{◌≡◌, ◌∙◌}
use mathlib.Core.List.{List}
use lib.ListN.{length}
use Rattle.trees.specs.Words.{leaf_mark, field_of}
use Rattle.trees.specs.Spelt.{counts_below}
use Rattle.trees.proofs.LeafSpelling.{counts_step, cut_counts_none, leaf_counts}
use Rattle.built.specs.Trees.{Tree}
use Rattle.built.specs.Layout.{size, pooled}
use Rattle.built.proofs.Laying.{length_pooled}
use Rattle.built.proofs.Lying.{Lies, a_bud, a_leaf, a_cut}
use Rattle.built.proofs.Covering.{Covers, by_bud, by_leaf, by_cut}

-- a cut adds no count
pub cut_adds_none :
    (nodes : List ℕ) (i : ℕ) → field_of nodes i < leaf_mark → counts_below nodes (i + 1) ≡ counts_below nodes i
cut_adds_none nodes i l = omega (arith, counts_step nodes i, cut_counts_none nodes i l)

module _ (rs nodes pool : List ℕ) where
  -- the counts below the node behind a tree's last are those below its first and its entries
  pub counts_pass :
      {far : Bool} {k i s : ℕ} {b : List (List ℕ)} {t : Tree} → Covers far rs k b t → Lies nodes pool t i s →
      counts_below nodes i ≡ s → counts_below nodes (i + size t) ≡ s + length (pooled t)
  unfolding size pooled
  counts_pass (by_bud e) (a_bud {i = i} n) q = let same : i + 0 ≡ i = omega arith in rw same (omega arith)
  counts_pass {i = i} (by_leaf w) (a_leaf there f s c u e) q =
      omega (arith, counts_step nodes i, leaf_counts nodes i (omega arith))
  counts_pass (by_cut {f = g} u d p r) (a_cut {v = w} {i = i} {x = x} {y = y} there f v c left right) q =
      let behind : i + (1 + size x + size y) ≡ i + 1 + size x + size y = omega arith in
      let first = counts_pass p left (cut_adds_none nodes i (omega arith) ∙ q) in
      rw behind (omega (arith, counts_pass r right first, length_pooled g w x y))
