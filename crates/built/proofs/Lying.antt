-- A tree lies in words: each of its nodes has its words there, and each leaf its entries, and a part that is not begun
-- would begin after the last node; and the words of a tree have it lie in them.
use Prim.Native.Nat.{ℕ, ◌+◌, ◌*◌, ◌<◌, ◌≤◌}
use native.Mathlib.Omega.{arith}
use mathlib.Core.Path.{◌≡◌, refl, sym, ap, ◌∙◌}
use mathlib.Core.List.{List, [], ◌∷◌, ◌++◌, append_assoc, append-nil}
use lib.ListN.{length, get_or, take, drop, length-append}
use lib.Seq.{get_or-append-add, take_at, drop_at}
use Rattle.trees.specs.Words.{node_words, leaf_mark, node_count, field_of, value_of, child_of, start_of, count_of, entries}
use Rattle.built.specs.Trees.{Tree, bud, leaf, cut}
use Rattle.built.specs.Layout.{size, pooled, right_child, laid}
use Rattle.built.proofs.Laying.{length_laid, count_laid}

-- the tree lies in these words, its first node being node i, and its entries starting at place s of the pool
pub data Lies (nodes pool : List ℕ) : Tree → ℕ → ℕ → Type 0 where
  a_bud : {i s : ℕ} → i ≡ node_count nodes → Lies nodes pool bud i s
  a_leaf :
      {l : List ℕ} {i s : ℕ} → i < node_count nodes → field_of nodes i ≡ leaf_mark → start_of nodes i ≡ s →
      count_of nodes i ≡ length l → s + length l ≤ length pool → entries nodes pool i ≡ l → Lies nodes pool (leaf l) i s
  a_cut :
      {f v i s : ℕ} {x y : Tree} → i < node_count nodes → field_of nodes i ≡ f → value_of nodes i ≡ v →
      child_of nodes i ≡ right_child y (i + 1 + size x) → Lies nodes pool x (i + 1) s →
      Lies nodes pool y (i + 1 + size x) (s + length (pooled x)) → Lies nodes pool (cut f v x y) i s

-- each part that is not begun is to begin at node m
pub data Till (m : ℕ) : Tree → ℕ → Type 0 where
  at_bud : {i : ℕ} → i ≡ m → Till m bud i
  at_leaf : {l : List ℕ} {i : ℕ} → Till m (leaf l) i
  at_cut :
      {f v i : ℕ} {x y : Tree} → Till m x (i + 1) → Till m y (i + 1 + size x) → Till m (cut f v x y) i

-- the words of a tree stand in nodes and pool between others: the words of i nodes come before its own, and s entries
-- before its entries
record WordsIn (nodes pool : List ℕ) (t : Tree) (i s : ℕ) : Type 0 where
  pub before : List ℕ
  pub after : List ℕ
  pub words : nodes ≡ before ++ (laid t i s ++ after)
  pub nodes_before : length before ≡ i * node_words
  pub pool_before : List ℕ
  pub pool_after : List ℕ
  pub entries_there : pool ≡ pool_before ++ (pooled t ++ pool_after)
  pub entries_before : length pool_before ≡ s

module _ {nodes pool : List ℕ} {t : Tree} {i s : ℕ} (w : WordsIn nodes pool t i s) where
  -- word j of node i is word j of the tree's
  word_at : (j : ℕ) → get_or nodes (i * node_words + j) 0 ≡ get_or (laid t i s ++ w.after) j 0
  word_at j = rw (w.words, ← w.nodes_before) (get_or-append-add w.before (laid t i s ++ w.after) j 0)

  -- the tree's first node is there
  node_there : 0 < size t → i < node_count nodes
  node_there some =
      omega (
        arith,
        ap length w.words,
        length-append w.before (laid t i s ++ w.after),
        length-append (laid t i s) w.after,
        w.nodes_before,
        length_laid t i s,
      )

  -- its entries lie within the pool
  entries_within : s + length (pooled t) ≤ length pool
  entries_within =
      omega (
        arith,
        ap length w.entries_there,
        length-append w.pool_before (pooled t ++ w.pool_after),
        length-append (pooled t) w.pool_after,
        w.entries_before,
      )

  -- they are what the pool has from place s on
  entries_at : take (length (pooled t)) (drop s pool) ≡ pooled t
  entries_at =
      ap (λ (p : List ℕ). take (length (pooled t)) (drop s p)) w.entries_there ∙
      rw (drop_at w.pool_before (pooled t ++ w.pool_after) s w.entries_before)
      (take_at (pooled t) w.pool_after (length (pooled t)) refl)

module _ {nodes pool : List ℕ} {f v i s : ℕ} {x y : Tree} (w : WordsIn nodes pool (cut f v x y) i s) where
  -- the words of a cut's left part stand behind its own
  words_left : WordsIn nodes pool x (i + 1) s
  unfolding laid pooled
  words_left =
      record {
        before = w.before ++ (f ∷ v ∷ right_child y (i + 1 + size x) ∷ []);
        after = laid y (i + 1 + size x) (s + length (pooled x)) ++ w.after;
        words = w.words ∙ simp append_assoc;
        nodes_before =
            omega (arith, w.nodes_before, length-append w.before (f ∷ v ∷ right_child y (i + 1 + size x) ∷ []));
        pool_before = w.pool_before;
        pool_after = pooled y ++ w.pool_after;
        entries_there = w.entries_there ∙ simp append_assoc;
        entries_before = w.entries_before;
      }

  -- the words of its right part stand behind those
  words_right : WordsIn nodes pool y (i + 1 + size x) (s + length (pooled x))
  unfolding laid pooled
  words_right =
      record {
        before = w.before ++ (f ∷ v ∷ right_child y (i + 1 + size x) ∷ laid x (i + 1) s);
        after = w.after;
        words = w.words ∙ simp append_assoc;
        nodes_before =
            omega (
              arith,
              w.nodes_before,
              length-append w.before (f ∷ v ∷ right_child y (i + 1 + size x) ∷ laid x (i + 1) s),
              length_laid x (i + 1) s,
            );
        pool_before = w.pool_before ++ pooled x;
        pool_after = w.pool_after;
        entries_there = w.entries_there ∙ simp append_assoc;
        entries_before = omega (arith, w.entries_before, length-append w.pool_before (pooled x));
      }

lies_of_words :
    (nodes pool : List ℕ) (t : Tree) (i s : ℕ) → WordsIn nodes pool t i s → Till (node_count nodes) t i →
    Lies nodes pool t i s
unfolding laid pooled entries size
lies_of_words nodes pool bud i s w (at_bud e) = a_bud e
lies_of_words nodes pool (leaf l) i s w at_leaf =
    a_leaf {l = l} (node_there w (omega arith)) (word_at w 0) (word_at w 1) (word_at w 2) (entries_within w)
    (rw (word_at w 1, word_at w 2) (entries_at w))
lies_of_words nodes pool (cut f v x y) i s w (at_cut p q) =
    a_cut (node_there w (omega arith)) (word_at w 0) (word_at w 1) (word_at w 2)
    (lies_of_words nodes pool x (i + 1) s (words_left w) p)
    (lies_of_words nodes pool y (i + 1 + size x) (s + length (pooled x)) (words_right w) q)

-- a tree lies in its words
pub laid_lies : (t : Tree) → Till (size t) t 0 → Lies (laid t 0 0) (pooled t) t 0 0
laid_lies t e =
    lies_of_words (laid t 0 0) (pooled t) t 0 0
    (record {
      before = [];
      after = [];
      words = sym (append-nil (laid t 0 0));
      nodes_before = refl;
      pool_before = [];
      pool_after = [];
      entries_there = sym (append-nil (pooled t));
      entries_before = refl;
    })
    (rw (count_laid t 0 0) e)
