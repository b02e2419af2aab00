-- The words that a stop is to have, and its nodes one by one: a leaf as it is, and a cut with 0 for a right child that
-- is not among the nodes before the stop.
use Prim.Native.Nat.{ℕ, zero, suc, ◌+◌, ◌*◌, ◌<◌}
use native.Mathlib.Omega.{arith}
use mathlib.Core.Bool.{true, cond, ◌&&◌}
use mathlib.Core.Path.{◌≡◌, refl, sym, ◌∙◌}
use mathlib.Core.List.{List, ◌++◌}
use lib.ListN.{length, get_or, length-append, get_or-append}
use lib.Seq.{get_or-append-add}
use lib.Dec.{leb}
use borrow.Author.Tests.{lt-ltb, le-ltb, lt-leb, le-leb}
use Rattle.facts.proofs.Cases.{Order, below, same, above, order, WithinOrOver, at_most, over, within_or_over}
use Rattle.trees.specs.Words.{node_words, leaf_mark, field_of, value_of, child_of}
use Rattle.trees.specs.Spelt.{is_cut}
use Rattle.built.specs.Trees.{Tree, leaf, cut}
use Rattle.built.specs.Layout.{size}
use Rattle.built.specs.Stops.{up_to, child_before, stop_node, nodes_below}
use Rattle.built.proofs.Laying.{right_child_lem}
use Rattle.built.proofs.Lying.{Lies, a_leaf, a_cut}
use Rattle.built.proofs.Stopping.{up_to_whole, up_to_size, up_to_child}

-- ---- the words that are defined

module _ (k : ℕ) (nodes : List ℕ) where
  stop_long : (i : ℕ) → length (stop_node k nodes i) ≡ node_words
  unfolding stop_node
  stop_long i = refl

  -- each node has its words
  pub below_long : (m : ℕ) → length (nodes_below k nodes m) ≡ m * node_words
  unfolding nodes_below
  below_long zero = refl
  below_long (suc m) =
      omega (arith, length-append (nodes_below k nodes m) (stop_node k nodes m), below_long m, stop_long m)

  -- word r of node j
  pub below_word :
      (m j r : ℕ) → j < m → r < node_words →
      get_or (nodes_below k nodes m) (j * node_words + r) 0 ≡ get_or (stop_node k nodes j) r 0
  unfolding nodes_below
  below_word zero j r h l = absurd (omega arith)
  below_word (suc m) j r h l = go (order j m) (λ n. below_word m j r n l)
    where
      go :
          Order j m → (j < m → get_or (nodes_below k nodes m) (j * node_words + r) 0 ≡ get_or (stop_node k nodes j) r 0) →
          get_or (nodes_below k nodes m ++ stop_node k nodes m) (j * node_words + r) 0 ≡ get_or (stop_node k nodes j) r 0
      go (below n) f =
          get_or-append (nodes_below k nodes m) (stop_node k nodes m) 0 (j * node_words + r)
          (omega (arith, below_long m)) ∙
          f n
      go (same n) f =
          let at : j * node_words + r ≡ length (nodes_below k nodes m) + r = omega (arith, below_long m) in
          rw (at, n) (get_or-append-add (nodes_below k nodes m) (stop_node k nodes m) r 0)
      go (above n) f = absurd (omega arith)

-- ---- the words of what is grown before node k

-- node j of a stop after k nodes is that of the tree, with 0 for a right child that is k or more
pub record StoppedNode (k : ℕ) (xs nodes : List ℕ) (j : ℕ) : Type 0 where
  pub field : field_of xs j ≡ field_of nodes j
  pub value : value_of xs j ≡ value_of nodes j
  pub child : child_of xs j ≡ cond (is_cut nodes j && leb k (child_of nodes j)) 0 (child_of nodes j)

module _ (k : ℕ) {xs ps nodes pool : List ℕ} where
  -- a leaf is so
  pub leaf_stopped :
      {l : List ℕ} {i s : ℕ} → Lies xs ps (leaf l) i s → Lies nodes pool (leaf l) i s → StoppedNode k xs nodes i
  leaf_stopped (a_leaf {i = i} there f s c u e) (a_leaf there' f' s' c' u' e') =
      record {
        field = f ∙ sym f';
        value = s ∙ sym s';
        child = c ∙ sym c' ∙ rw (le-ltb (field_of nodes i) leaf_mark (omega arith));
      }

  -- a cut is so
  pub cut_stopped :
      {f v i s : ℕ} {x y : Tree} → f < leaf_mark → 0 < size y → i < k →
      Lies xs ps (cut f v (up_to k x (i + 1)) (up_to k y (i + 1 + size x))) i s → Lies nodes pool (cut f v x y) i s →
      StoppedNode k xs nodes i
  unfolding child_before
  cut_stopped {x = x} {y = y} u some h (a_cut {i = i} there f v c p q) (a_cut there' f' v' c' p' q') =
      record {
        field = f ∙ sym f';
        value = v ∙ sym v';
        child = c ∙ sym (up_to_child k x y (i + 1) (omega arith) some) ∙ go (within_or_over k (i + 1 + size x));
      }
    where
      right : child_of nodes i ≡ i + 1 + size x
      right = c' ∙ right_child_lem y (i + 1 + size x) some

      cut_here : is_cut nodes i ≡ true
      cut_here = lt-ltb (field_of nodes i) leaf_mark (omega arith)

      go :
          WithinOrOver k (i + 1 + size x) →
          child_before k (i + 1 + size (up_to k x (i + 1))) ≡
          cond (is_cut nodes i && leb k (child_of nodes i)) 0 (child_of nodes i)
      go (at_most m) =
          let at = up_to_size k x (i + 1) (omega arith) m in
          rw (cut_here, right, at, le-leb k (i + 1 + size x) m, le-ltb k k (omega arith))
      go (over m) =
          rw (
            cut_here,
            right,
            up_to_whole k x (i + 1) (omega arith),
            lt-leb k (i + 1 + size x) m,
            lt-ltb (i + 1 + size x) k m,
          )
