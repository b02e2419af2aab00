-- THE LAW of a stop: its words are those that are defined. They are the tree's first nodes, with 0 for each right child
-- that is not among them, and the entries of the leaves among them.
use Prim.Native.Nat.{ℕ, zero, suc, ◌+◌, ◌*◌, ◌≤◌, ◌<◌}
use native.Mathlib.Nat.{zero-add, min-le_right}
use native.Mathlib.Omega.{arith}
use mathlib.Core.Bool.{Bool, true, false, cond, ◌&&◌}
use mathlib.Core.Path.{◌≡◌, refl, sym, ap, ◌∙◌}
use mathlib.Core.List.{List, ◌++◌, append-nil}
use lib.ListN.{length, take, length-append, length-take}
use lib.Seq.{take-length, take-append-le, take-append-add}
use lib.Dec.{leb}
use Rattle.facts.proofs.Cases.{WithinOrOver, at_most, over, within_or_over}
use Rattle.trees.specs.Words.{node_words, child_of}
use Rattle.trees.specs.Spelt.{is_cut, leaf_count, counts_below}
use Rattle.trees.proofs.LeafSpelling.{counts_first}
use Rattle.built.specs.Trees.{Tree, bud, leaf, cut}
use Rattle.built.specs.Layout.{size, pooled, laid}
use Rattle.built.specs.Stops.{up_to, stop_node, stop_nodes, stop_pool}
use Rattle.built.proofs.Laying.{length_laid}
use Rattle.built.proofs.Lying.{laid_lies}
use Rattle.built.proofs.FullTrees.{full_till}
use Rattle.built.proofs.Stopping.{up_to_bud, up_to_end, up_to_leaf, up_to_cut, up_to_whole, up_to_size}
use Rattle.built.proofs.StopLies.{stop_lies}
use Rattle.built.proofs.SameWords.{nodes_same}
use Rattle.built.proofs.Covering.{Covers, covers_full, covers_up_to}
use Rattle.built.proofs.Counting.{counts_pass}
use Rattle.built.proofs.StopWords.{below_long, below_word, StoppedNode}
use Rattle.built.proofs.StopNodes.{stopped}

-- the entries of what is grown before node k are the first of the tree's
pooled_first : (k : ℕ) (t : Tree) (i : ℕ) → take (length (pooled (up_to k t i))) (pooled t) ≡ pooled (up_to k t i)
unfolding pooled
pooled_first k bud i = rw (up_to_bud k i)
pooled_first k (leaf l) i = go (within_or_over k i)
  where
    go : WithinOrOver k i → take (length (pooled (up_to k (leaf l) i))) l ≡ pooled (up_to k (leaf l) i)
    go (at_most h) = rw (up_to_end k (leaf l) i h)
    go (over h) = rw (up_to_leaf k l i h) (take-length l)
pooled_first k (cut f v x y) i =
    go (within_or_over k i) (within_or_over k (i + 1 + size x)) (pooled_first k x (i + 1))
    (pooled_first k y (i + 1 + size x))
  where
    go :
        WithinOrOver k i → WithinOrOver k (i + 1 + size x) →
        take (length (pooled (up_to k x (i + 1)))) (pooled x) ≡ pooled (up_to k x (i + 1)) →
        take (length (pooled (up_to k y (i + 1 + size x)))) (pooled y) ≡ pooled (up_to k y (i + 1 + size x)) →
        take (length (pooled (up_to k (cut f v x y) i))) (pooled x ++ pooled y) ≡ pooled (up_to k (cut f v x y) i)
    go (at_most h) n p q = rw (up_to_end k (cut f v x y) i h)
    go (over h) (at_most n) p q =
        let short : length (pooled (up_to k x (i + 1))) ≤ length (pooled x) =
        omega (
          arith,
          ap length p,
          length-take (length (pooled (up_to k x (i + 1)))) (pooled x),
          min-le_right (length (pooled (up_to k x (i + 1)))) (length (pooled x)),
        ) in
        rw (up_to_cut k f v x y i h, up_to_end k y (i + 1 + size x) n, append-nil (pooled (up_to k x (i + 1))))
        (take-append-le (length (pooled (up_to k x (i + 1)))) (pooled x) (pooled y) short ∙ p)
    go (over h) (over n) p q =
        rw (
          up_to_cut k f v x y i h,
          up_to_whole k x (i + 1) (omega arith),
          length-append (pooled x) (pooled (up_to k y (i + 1 + size x))),
        )
        (take-append-add (pooled x) (pooled y) (length (pooled (up_to k y (i + 1 + size x)))) ∙
        ap (λ (l : List ℕ). pooled x ++ l) q)

count_kept : (t u : Bool) (c : ℕ) → cond t 0 (cond (t && u) 0 c) ≡ cond t 0 c
count_kept true u c = refl
count_kept false u c = refl

module _ (k : ℕ) (xs nodes : List ℕ) (same : (j : ℕ) → j < k → StoppedNode k xs nodes j) where
  -- a cut has no entries, and a leaf's count is not altered
  count_same : (j : ℕ) → j < k → leaf_count xs j ≡ leaf_count nodes j
  unfolding leaf_count
  count_same j h =
      let w = same j h in
      rw (w.field, w.child) (count_kept (is_cut nodes j) (leb k (child_of nodes j)) (child_of nodes j))

  counts_same : (j : ℕ) → j ≤ k → counts_below xs j ≡ counts_below nodes j
  unfolding counts_below
  counts_same zero h = refl
  counts_same (suc j) h =
      let p = counts_same j (omega arith) in let q = count_same j (omega arith) in rw (p, q)

  -- the nodes are those that are defined
  defined : length xs ≡ k * node_words → xs ≡ stop_nodes k nodes
  unfolding stop_node
  defined long =
      nodes_same xs (stop_nodes k nodes) k long (below_long k nodes k)
      (λ j h.
      let w = same j h in
      record {
        field = w.field ∙ sym (below_word k nodes k j 0 h (omega arith));
        value = w.value ∙ sym (below_word k nodes k j 1 h (omega arith));
        child = w.child ∙ sym (below_word k nodes k j 2 h (omega arith));
      })

module _ (rs : List ℕ) {n : ℕ} {b : List (List ℕ)} (t : Tree) (c : Covers false rs n b t) (k : ℕ) (short : k ≤ size t)
  where
    nodes_in : size (up_to k t 0) ≡ k
    nodes_in = omega (arith, up_to_size k t 0 (omega arith) (omega arith))

    each : (j : ℕ) → j < k → StoppedNode k (laid (up_to k t 0) 0 0) (laid t 0 0) j
    each j h =
        stopped k c (stop_lies k (covers_full c)) (laid_lies t (full_till (covers_full c) (size t) 0)) j (omega arith)
        (omega (arith, nodes_in))

    -- the nodes of a stop are the first k of the tree, with 0 for each right child that is k or more
    pub stop_nodes_lem : laid (up_to k t 0) 0 0 ≡ stop_nodes k (laid t 0 0)
    stop_nodes_lem = defined k _ _ each (omega (arith, length_laid (up_to k t 0) 0 0, nodes_in))

    -- its entries are those of the leaves among them
    pub stop_pool_lem : pooled (up_to k t 0) ≡ stop_pool k (laid t 0 0) (pooled t)
    stop_pool_lem =
        let p = up_to k t 0 in
        let many : counts_below (laid p 0 0) (0 + size p) ≡ 0 + length (pooled p) =
        counts_pass rs (laid p 0 0) (pooled p) (covers_up_to k c 0) (stop_lies k (covers_full c))
        (sym (counts_first (laid p 0 0))) in
        let at : counts_below (laid p 0 0) (0 + size p) ≡ counts_below (laid p 0 0) k = rw (zero-add, nodes_in) in
        let all : length (pooled p) ≡ counts_below (laid t 0 0) k =
        omega (arith, many, at, counts_same k _ _ each k (omega arith)) in
        rw (← all) (sym (pooled_first k t 0))
