-- Words in which a tree lies, and which have no more nodes and no more entries than it, are the tree's own.
use Prim.Native.Nat.{ℕ, ◌+◌, ◌*◌, ◌/◌, ◌%◌, ◌≤◌, ◌<◌}
use native.Mathlib.Omega.{arith}
use mathlib.Core.Path.{◌≡◌, refl, sym, ◌∙◌}
use mathlib.Core.List.{List}
use lib.ListN.{length, get_or, take, drop, length-append}
use lib.Seq.{ext_get_or, take_all, take-add, drop-drop}
use Rattle.facts.proofs.Cases.{Order, below, same, above, order, WithinOrOver, at_most, over, within_or_over}
use Rattle.trees.specs.Words.{node_words, field_of, value_of, child_of, entries}
use Rattle.built.specs.Trees.{Tree}
use Rattle.built.specs.Layout.{size, pooled, laid}
use Rattle.built.proofs.Laying.{length_laid}
use Rattle.built.proofs.Lying.{Lies, a_bud, a_leaf, a_cut}

-- node j has the same words in both
pub record SameNode (xs ys : List ℕ) (j : ℕ) : Type 0 where
  pub field : field_of xs j ≡ field_of ys j
  pub value : value_of xs j ≡ value_of ys j
  pub child : child_of xs j ≡ child_of ys j

-- so it has the same word at each place
word_same :
    (xs ys : List ℕ) (j r : ℕ) → r < node_words → SameNode xs ys j →
    get_or xs (j * node_words + r) 0 ≡ get_or ys (j * node_words + r) 0
word_same xs ys j r l w = go (order r 1)
  where
    go : Order r 1 → get_or xs (j * node_words + r) 0 ≡ get_or ys (j * node_words + r) 0
    go (below h) = let z : r ≡ 0 = omega arith in rw z w.field
    go (same h) = rw h w.value
    go (above h) = let z : r ≡ 2 = omega arith in rw z w.child

-- words with the same nodes are the same
pub nodes_same :
    (xs ys : List ℕ) (n : ℕ) → length xs ≡ n * node_words → length ys ≡ n * node_words →
    ((j : ℕ) → j < n → SameNode xs ys j) → xs ≡ ys
nodes_same xs ys n long as_long f =
    ext_get_or 0 xs ys (omega arith)
    (λ i h.
    let at : i ≡ i / node_words * node_words + i % node_words = omega arith in
    rw at (word_same xs ys (i / node_words) (i % node_words) (omega arith) (f (i / node_words) (omega arith))))

-- a tree that lies in two lists of words has the same nodes in both
lies_same :
    {xs ps ys qs : List ℕ} {t : Tree} {i s : ℕ} → Lies xs ps t i s → Lies ys qs t i s → (j : ℕ) → i ≤ j →
    j < i + size t → SameNode xs ys j
unfolding size
lies_same (a_bud n) w j l h = absurd (omega arith)
lies_same {xs} {ys = ys} (a_leaf {i = i} there f s c u e) (a_leaf there' f' s' c' u' e') j l h =
    let at : i ≡ j = omega arith in
    rw (← at) (record { field = f ∙ sym f'; value = s ∙ sym s'; child = c ∙ sym c' })
lies_same {xs} {ys = ys} (a_cut {i = i} {x = x} {y = y} there f v c p q) (a_cut there' f' v' c' p' q') j l h =
    go (order i j) (within_or_over (i + 1 + size x) j) (λ m n. lies_same p p' j m n) (λ m n. lies_same q q' j m n)
  where
    go :
        Order i j → WithinOrOver (i + 1 + size x) j →
        (i + 1 ≤ j → j < i + 1 + size x → SameNode xs ys j) →
        (i + 1 + size x ≤ j → j < i + 1 + size x + size y → SameNode xs ys j) → SameNode xs ys j
    go (below m) (over n) a z = a (omega arith) n
    go (below m) (at_most n) a z = z n (omega arith)
    go (same at) n a z = rw (← at) (record { field = f ∙ sym f'; value = v ∙ sym v'; child = c ∙ sym c' })
    go (above m) n a z = absurd (omega arith)

-- the entries of a tree are what the pool has from its place on
lies_pool :
    {xs ps : List ℕ} {t : Tree} {i s : ℕ} → Lies xs ps t i s → take (length (pooled t)) (drop s ps) ≡ pooled t
unfolding pooled entries
lies_pool (a_bud n) = refl
lies_pool {ps = ps} (a_leaf there f s c u e) = rw (s, c) at e
lies_pool {ps = ps} (a_cut {s = s} {x = x} {y = y} there f v c p q) =
    rw (
      length-append (pooled x) (pooled y),
      take-add (length (pooled x)) (length (pooled y)) (drop s ps),
      drop-drop (length (pooled x)) s ps,
      lies_pool p,
      lies_pool q,
    )

-- words in which a tree lies, and which have no more nodes and no more entries than it, are the tree's own
pub own_words :
    {xs ps : List ℕ} (t : Tree) → Lies xs ps t 0 0 → Lies (laid t 0 0) (pooled t) t 0 0 →
    length xs ≡ size t * node_words → length ps ≡ length (pooled t) → (laid t 0 0 ≡ xs) × (pooled t ≡ ps)
own_words {xs} {ps} t w u long many = (
  nodes_same (laid t 0 0) xs (size t) (length_laid t 0 0) long (λ j h. lies_same u w j (omega arith) (omega arith)),
  sym (lies_pool w) ∙ take_all (length (pooled t)) ps (omega arith),
)
