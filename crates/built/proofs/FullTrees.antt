-- Trees in which every part is begun: the trees that are grown are so, and what is grown of such a tree before a node
-- is open exactly where the tree has nodes from there on.
use Prim.Native.Nat.{ℕ, zero, suc, ◌+◌, ◌≤◌, ◌<◌}
use native.Mathlib.Omega.{arith}
use mathlib.Core.Bool.{Bool, true, false}
use mathlib.Core.Path.{◌≡◌, refl}
use mathlib.Core.List.{List}
use lib.Dec.{ltb}
use borrow.Author.Tests.{lt-ltb, le-ltb}
use Rattle.facts.proofs.Cases.{WithinOrOver, at_most, over, within_or_over}
use Rattle.trees.specs.Words.{leaf_mark, node_count, field_of}
use Rattle.built.specs.CutValues.{stops}
use Rattle.built.specs.Trees.{Tree, leaf, cut, grown}
use Rattle.built.specs.Layout.{size}
use Rattle.built.specs.GrownOn.{grown_on}
use Rattle.built.specs.Stops.{up_to, last_open}
use Rattle.built.proofs.GrownTrees.{grown_zero, grown_stops, grown_divided}
use Rattle.built.proofs.GrowingOn.{on_missing, on_leaf, on_deep, on_cut}
use Rattle.built.proofs.Lying.{Till, at_leaf, at_cut}
use Rattle.built.proofs.Stopping.{up_to_end, up_to_leaf, up_to_cut}

pub data Full : Tree → Type 0 where
  full_leaf : {l : List ℕ} → Full (leaf l)
  full_cut : {f v : ℕ} {x y : Tree} → Full x → Full y → Full (cut f v x y)

-- such a tree has nodes
pub full_some : {t : Tree} → Full t → 0 < size t
unfolding size
full_some full_leaf = omega arith
full_some (full_cut p q) = omega arith

-- it has no part that is not begun
pub full_till : {t : Tree} → Full t → (m i : ℕ) → Till m t i
full_till full_leaf m i = at_leaf
full_till (full_cut p q) m i = at_cut (full_till p m (i + 1)) (full_till q m _)

pub grown_full : (k n : ℕ) (boxes : List (List (List ℕ))) (b : List (List ℕ)) → Full (grown k n boxes b)
grown_full zero n boxes b = rw (grown_zero n boxes b) full_leaf
grown_full (suc k) n boxes b = go (stops n boxes b) refl (λ d. grown_full k n boxes d)
  where
    go :
        (t : Bool) → stops n boxes b ≡ t → ((d : List (List ℕ)) → Full (grown k n boxes d)) →
        Full (grown (suc k) n boxes b)
    go true e r = rw (grown_stops n boxes b k e) full_leaf
    go false e r = rw (grown_divided n boxes b k e) (full_cut (r _) (r _))

-- a tree that is grown from nodes that stand is full
pub on_full :
    (k n : ℕ) (boxes : List (List (List ℕ))) (nodes pool : List ℕ) (b : List (List ℕ)) (i : ℕ) →
    Full (grown_on k n boxes nodes pool b i)
on_full zero n boxes nodes pool b i =
    go (within_or_over (node_count nodes) i) (within_or_over leaf_mark (field_of nodes i))
  where
    go :
        WithinOrOver (node_count nodes) i → WithinOrOver leaf_mark (field_of nodes i) →
        Full (grown_on zero n boxes nodes pool b i)
    go (at_most h) m = rw (on_missing n boxes nodes pool b i zero h) (grown_full zero n boxes b)
    go (over h) (at_most m) = rw (on_leaf n boxes nodes pool b i h zero m) full_leaf
    go (over h) (over m) = rw (on_deep n boxes nodes pool b i h m) full_leaf
on_full (suc k) n boxes nodes pool b i =
    go (within_or_over (node_count nodes) i) (within_or_over leaf_mark (field_of nodes i))
    (λ d j. on_full k n boxes nodes pool d j)
  where
    go :
        WithinOrOver (node_count nodes) i → WithinOrOver leaf_mark (field_of nodes i) →
        ((d : List (List ℕ)) (j : ℕ) → Full (grown_on k n boxes nodes pool d j)) →
        Full (grown_on (suc k) n boxes nodes pool b i)
    go (at_most h) m r = rw (on_missing n boxes nodes pool b i (suc k) h) (grown_full (suc k) n boxes b)
    go (over h) (at_most m) r = rw (on_leaf n boxes nodes pool b i h (suc k) m) full_leaf
    go (over h) (over m) r = rw (on_cut n boxes nodes pool b i h m k refl refl) (full_cut (r _ _) (r _ _))

-- what is grown of a full tree before node e is open exactly where the tree has nodes from e on
pub last_open_lem : {t : Tree} (e : ℕ) → Full t → (i : ℕ) → i ≤ e → last_open (up_to e t i) ≡ ltb e (i + size t)
unfolding last_open size
last_open_lem e (full_leaf {l = l}) i h = go (within_or_over e i)
  where
    go : WithinOrOver e i → last_open (up_to e (leaf l) i) ≡ ltb e (i + 1)
    go (at_most m) = rw (up_to_end e (leaf l) i m, lt-ltb e (i + 1) (omega arith))
    go (over m) = rw (up_to_leaf e l i m, le-ltb e (i + 1) (omega arith))
last_open_lem e (full_cut {f = f} {v = v} {x = x} {y = y} p q) i h =
    go (within_or_over e i) (within_or_over e (i + 1 + size x)) (λ m. last_open_lem e q (i + 1 + size x) m)
  where
    go :
        WithinOrOver e i → WithinOrOver e (i + 1 + size x) →
        (i + 1 + size x ≤ e → last_open (up_to e y (i + 1 + size x)) ≡ ltb e (i + 1 + size x + size y)) →
        last_open (up_to e (cut f v x y) i) ≡ ltb e (i + (1 + size x + size y))
    go (at_most m) n r = rw (up_to_end e (cut f v x y) i m, lt-ltb e (i + (1 + size x + size y)) (omega arith))
    go (over m) (at_most n) r =
        rw (
          up_to_cut e f v x y i m,
          up_to_end e y (i + 1 + size x) n,
          lt-ltb e (i + (1 + size x + size y)) (omega (arith, full_some q)),
        )
    go (over m) (over n) r =
        let same : i + 1 + size x + size y ≡ i + (1 + size x + size y) = omega arith in
        rw (up_to_cut e f v x y i m, ← same) (r (omega arith))
