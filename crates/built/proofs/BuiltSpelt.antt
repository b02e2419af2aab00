-- The words of a tree that covers the rules are *spelt*.
use Prim.Native.Nat.{ℕ, ◌+◌, ◌≤◌, ◌<◌}
use native.Mathlib.Nat.{zero-add}
use native.Mathlib.Omega.{arith}
use mathlib.Core.Bool.{Bool}
use mathlib.Core.Path.{◌≡◌, sym, ◌∙◌}
use mathlib.Core.List.{List}
use lib.ListN.{length}
use Rattle.facts.proofs.Cases.{Order, below, same, above, order, WithinOrOver, at_most, over, within_or_over}
use Rattle.rules.specs.Words.{rule_count}
use Rattle.trees.specs.Words.{leaf_mark, node_count, field_of, child_of, start_of, count_of, entries}
use Rattle.trees.specs.Spelt.{counts_below, Spelt}
use Rattle.trees.proofs.LeafSpelling.{counts_first}
use Rattle.trees.proofs.NodeSpelling.{SpeltNode}
use Rattle.built.specs.Trees.{Tree}
use Rattle.built.specs.Layout.{size, pooled, laid}
use Rattle.built.proofs.Laying.{right_child_below, count_laid}
use Rattle.built.proofs.Lying.{Lies, a_bud, a_leaf, a_cut}
use Rattle.built.proofs.Covering.{ListsRules, Covers, by_bud, by_leaf, by_cut}
use Rattle.built.proofs.Counting.{cut_adds_none, counts_pass}

module _ (rs nodes pool : List ℕ) where
  -- the leaf at node i is spelt, where it lists rules and its entries start at the sum of the counts below
  leaf_spelt :
      {b : List (List ℕ)} {l : List ℕ} (i : ℕ) → ListsRules rs b l → field_of nodes i ≡ leaf_mark →
      start_of nodes i ≡ counts_below nodes i → count_of nodes i ≡ length l →
      start_of nodes i + length l ≤ length pool → entries nodes pool i ≡ l → SpeltNode (rule_count rs) nodes pool i
  leaf_spelt i w f s c u e =
      record {
        first = omega arith;
        child = λ l. absurd (omega arith);
        leaf =
            λ l.
            record {
              start = s;
              count = omega (arith, w.few);
              within = omega arith;
              rules = λ y h. w.rules y (rw e at h);
            };
      }

  -- the cut at node i is spelt, where its right child is a node
  cut_spelt :
      (i : ℕ) → field_of nodes i < leaf_mark → child_of nodes i < node_count nodes → SpeltNode (rule_count rs) nodes pool i
  cut_spelt i f c = record { first = omega arith; child = λ l. c; leaf = λ l. absurd (omega arith) }

  -- each node of a tree that covers the rules is spelt, where the counts below its first make its start, and all of
  -- its nodes are there
  nodes_spelt :
      {far : Bool} {k i s : ℕ} {b : List (List ℕ)} {t : Tree} → Covers far rs k b t → Lies nodes pool t i s →
      counts_below nodes i ≡ s → i + size t ≤ node_count nodes → (j : ℕ) → i ≤ j → j < i + size t →
      SpeltNode (rule_count rs) nodes pool j
  unfolding size
  nodes_spelt (by_bud e) (a_bud n) q m j l h = absurd (omega arith)
  nodes_spelt {i = i} (by_leaf w) (a_leaf there f s c u e) q m j l h =
      let at : i ≡ j = omega arith in
      rw (← at) (leaf_spelt i w f (s ∙ sym q) c (omega arith) e)
  nodes_spelt (by_cut u d p r) (a_cut {i = i} {s = s} {x = x} {y = y} there f v c left right) q m j l h =
      go
      (λ n o. nodes_spelt p left first (omega arith) j n o)
      (λ n. nodes_spelt r right (counts_pass rs nodes pool p left first) (omega arith) j n (omega arith))
      (order i j) (within_or_over (i + 1 + size x) j)
    where
      first : counts_below nodes (i + 1) ≡ s
      first = cut_adds_none nodes i (omega arith) ∙ q

      go :
          (i + 1 ≤ j → j < i + 1 + size x → SpeltNode (rule_count rs) nodes pool j) →
          (i + 1 + size x ≤ j → SpeltNode (rule_count rs) nodes pool j) → Order i j →
          WithinOrOver (i + 1 + size x) j → SpeltNode (rule_count rs) nodes pool j
      go a z (below n) (over o) = a (omega arith) o
      go a z (below n) (at_most o) = z o
      go a z (same e) o =
          rw (← e) (cut_spelt i (omega arith) (rw c (right_child_below y _ _ (omega arith) (omega arith))))
      go a z (above n) o = absurd (omega arith)

module _ {far : Bool} (rs : List ℕ) {k : ℕ} {b : List (List ℕ)} (t : Tree) (c : Covers far rs k b t)
    (w : Lies (laid t 0 0) (pooled t) t 0 0) where
  -- the counts below the node behind the tree's last are all of its entries
  total_is : counts_below (laid t 0 0) (size t) ≡ length (pooled t)
  total_is =
      let u = counts_pass rs (laid t 0 0) (pooled t) c w (sym (counts_first (laid t 0 0))) in simp zero-add at u

  laid_node : (i : ℕ) → i < node_count (laid t 0 0) → SpeltNode (rule_count rs) (laid t 0 0) (pooled t) i
  laid_node i l =
      let m = count_laid t 0 0 in
      nodes_spelt rs (laid t 0 0) (pooled t) c w (sym (counts_first (laid t 0 0))) (omega arith) i (omega arith)
      (omega arith)

  -- the words of a tree that covers the rules, and lies in them, are spelt
  pub laid_spelt : Spelt (rule_count rs) (laid t 0 0) (pooled t)
  laid_spelt =
      record {
        first = λ i l. (laid_node i l).first;
        child = λ i l. (laid_node i l).child;
        leaf = λ i l. (laid_node i l).leaf;
        total = rw (count_laid t 0 0) total_is;
      }
