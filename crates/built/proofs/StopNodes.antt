-- Each node of a stop is that of the tree, with 0 for a right child that is not among the nodes before the stop.
use Prim.Native.Nat.{ℕ, ◌+◌, ◌≤◌, ◌<◌}
use native.Mathlib.Omega.{arith}
use mathlib.Core.Bool.{false}
use mathlib.Core.Path.{◌≡◌, ap, subst, ◌∙◌}
use mathlib.Core.List.{List}
use lib.ListN.{length}
use Rattle.facts.proofs.Cases.{Order, below, same, above, order, WithinOrOver, at_most, over, within_or_over}
use Rattle.built.specs.Trees.{Tree, leaf, cut}
use Rattle.built.specs.Layout.{size, pooled}
use Rattle.built.specs.Stops.{up_to}
use Rattle.built.proofs.Laying.{size_bud, size_leaf, size_cut}
use Rattle.built.proofs.Lying.{Lies, a_cut}
use Rattle.built.proofs.Stopping.{up_to_end, up_to_leaf, up_to_cut, up_to_whole}
use Rattle.built.proofs.FullTrees.{full_some}
use Rattle.built.proofs.Covering.{Covers, by_bud, by_leaf, by_cut, covers_full}
use Rattle.built.proofs.StopWords.{StoppedNode, leaf_stopped, cut_stopped}

module _ (k : ℕ) {xs ps nodes pool : List ℕ} where
  -- the nodes of the parts of a cut, from those of each part
  parts_stopped :
      {f v i s : ℕ} {x y : Tree} (j : ℕ) →
      Lies xs ps (cut f v (up_to k x (i + 1)) (up_to k y (i + 1 + size x))) i s → Lies nodes pool (cut f v x y) i s →
      i < k → i < j → j < i + 1 + size (up_to k x (i + 1)) + size (up_to k y (i + 1 + size x)) →
      (Lies xs ps (up_to k x (i + 1)) (i + 1) s → Lies nodes pool x (i + 1) s →
      j < i + 1 + size (up_to k x (i + 1)) → StoppedNode k xs nodes j) →
      ((z : ℕ) → Lies xs ps (up_to k y (i + 1 + size x)) (i + 1 + size x) z → Lies nodes pool y (i + 1 + size x) z →
      i + 1 + size x ≤ j → j < i + 1 + size x + size (up_to k y (i + 1 + size x)) → StoppedNode k xs nodes j) →
      StoppedNode k xs nodes j
  parts_stopped {x = x} {y = y} j (a_cut {i = i} {s = s} a f v c p q) (a_cut a' f' v' c' p' q') h l u left right =
      go (within_or_over (i + 1 + size (up_to k x (i + 1))) j) (within_or_over k (i + 1 + size x))
    where
      go :
          WithinOrOver (i + 1 + size (up_to k x (i + 1))) j → WithinOrOver k (i + 1 + size x) → StoppedNode k xs nodes j
      go (over m) n = left p p' m
      go (at_most m) (at_most n) =
          let none : size (up_to k y (i + 1 + size x)) ≡ 0 =
          ap size (up_to_end k y (i + 1 + size x) n) ∙ size_bud in
          absurd (omega arith)
      go (at_most m) (over n) =
          let all = up_to_whole k x (i + 1) (omega arith) in
          let nodes_in : size (up_to k x (i + 1)) ≡ size x = ap size all in
          right (s + length (pooled x))
          (subst
          (λ (t : Tree).
          Lies xs ps (up_to k y (i + 1 + size x)) (i + 1 + size t) (s + length (pooled t)))
          all q) q' (omega arith) (omega arith)

  -- each node of a stop is so
  pub stopped :
      {rs : List ℕ} {n i s : ℕ} {b : List (List ℕ)} {t : Tree} → Covers false rs n b t →
      Lies xs ps (up_to k t i) i s → Lies nodes pool t i s → (j : ℕ) → i ≤ j → j < i + size (up_to k t i) →
      StoppedNode k xs nodes j
  stopped (by_bud e) w u j l h = let z : ◌≡◌ {A = ℕ} 0 1 = cc in absurd (omega arith)
  stopped {i = i} {s = s} (by_leaf {l = m} lists) w u j l h = go (within_or_over k i)
    where
      go : WithinOrOver k i → StoppedNode k xs nodes j
      go (at_most n) =
          let none : size (up_to k (leaf m) i) ≡ 0 = ap size (up_to_end k (leaf m) i n) ∙ size_bud in
          absurd (omega arith)
      go (over n) =
          let one : size (up_to k (leaf m) i) ≡ 1 = ap size (up_to_leaf k m i n) ∙ size_leaf m in
          let at : i ≡ j = omega arith in
          rw (← at) (leaf_stopped k (subst (λ (t : Tree). Lies xs ps t i s) (up_to_leaf k m i n) w) u)
  stopped {i = i} {s = s} (by_cut {f = f} {v = v} {x = x} {y = y} under d p q) w u j l h =
      go (within_or_over k i) (order i j) (λ a c m. stopped p a c j m) (λ z a c m o. stopped q a c j m o)
    where
      go :
          WithinOrOver k i → Order i j →
          (Lies xs ps (up_to k x (i + 1)) (i + 1) s → Lies nodes pool x (i + 1) s → i + 1 ≤ j →
          j < i + 1 + size (up_to k x (i + 1)) → StoppedNode k xs nodes j) →
          ((z : ℕ) → Lies xs ps (up_to k y (i + 1 + size x)) (i + 1 + size x) z →
          Lies nodes pool y (i + 1 + size x) z → i + 1 + size x ≤ j →
          j < i + 1 + size x + size (up_to k y (i + 1 + size x)) → StoppedNode k xs nodes j) →
          StoppedNode k xs nodes j
      go (at_most n) o left right =
          let none : size (up_to k (cut f v x y) i) ≡ 0 = ap size (up_to_end k (cut f v x y) i n) ∙ size_bud in
          absurd (omega arith)
      go (over n) (above m) left right = absurd (omega arith)
      go (over n) (same at) left right =
          rw (← at)
          (cut_stopped k under (full_some (covers_full q)) n
          (subst (λ (t : Tree). Lies xs ps t i s) (up_to_cut k f v x y i n) w) u)
      go (over n) (below m) left right =
          let many : size (up_to k (cut f v x y) i) ≡ 1 + size (up_to k x (i + 1)) + size (up_to k y (i + 1 + size x)) =
          ap size (up_to_cut k f v x y i n) ∙ size_cut f v _ _ in
          parts_stopped j (subst (λ (t : Tree). Lies xs ps t i s) (up_to_cut k f v x y i n) w) u n m (omega arith)
          (λ a c o. left a c (omega arith) o) right
