-- A tree as far as it is grown before a node e: its equations, its size, and when it is the whole.
use Prim.Native.Nat.{ℕ, ◌+◌, ◌≤◌, ◌<◌}
use native.Mathlib.Omega.{arith}
use mathlib.Core.Path.{◌≡◌, refl, sym, ◌∙◌}
use mathlib.Core.List.{List}
use borrow.Author.Tests.{lt-ltb, le-ltb}
use Rattle.facts.proofs.Cases.{WithinOrOver, at_most, over, within_or_over}
use Rattle.built.specs.Trees.{Tree, bud, leaf, cut}
use Rattle.built.specs.Layout.{size, right_child}
use Rattle.built.specs.Stops.{up_to, child_before}
use Rattle.built.proofs.Laying.{cut_some, right_child_lem}

-- a part that is not begun stays so
pub up_to_bud : (e i : ℕ) → up_to e bud i ≡ bud
unfolding up_to
up_to_bud e i = refl

-- a leaf before the end is grown
pub up_to_leaf : (e : ℕ) (l : List ℕ) (i : ℕ) → i < e → up_to e (leaf l) i ≡ leaf l
unfolding up_to
up_to_leaf e l i h = rw (lt-ltb i e h)

-- a cut before the end is grown, and its parts as far as they are before it
pub up_to_cut :
    (e f v : ℕ) (x y : Tree) (i : ℕ) → i < e →
    up_to e (cut f v x y) i ≡ cut f v (up_to e x (i + 1)) (up_to e y (i + 1 + size x))
unfolding up_to
up_to_cut e f v x y i h = rw (lt-ltb i e h)

-- what would begin at the end or later is not begun
pub up_to_end : (e : ℕ) (t : Tree) (i : ℕ) → e ≤ i → up_to e t i ≡ bud
unfolding up_to
up_to_end e bud i h = refl
up_to_end e (leaf l) i h = rw (le-ltb i e h)
up_to_end e (cut f v x y) i h = rw (le-ltb i e h)

-- what begins before the end is begun
pub up_to_some : (e : ℕ) (t : Tree) (i : ℕ) → i < e → 0 < size t → 0 < size (up_to e t i)
up_to_some e bud i h some = rw (up_to_bud e i) some
up_to_some e (leaf l) i h some = rw (up_to_leaf e l i h) some
up_to_some e (cut f v x y) i h some = rw (up_to_cut e f v x y i h) (cut_some f v (up_to e x (i + 1)) _)

-- a tree that ends before the end is whole
pub up_to_whole : (e : ℕ) (t : Tree) (i : ℕ) → i + size t ≤ e → up_to e t i ≡ t
unfolding size
up_to_whole e bud i h = up_to_bud e i
up_to_whole e (leaf l) i h = up_to_leaf e l i (omega arith)
up_to_whole e (cut f v x y) i h =
    up_to_cut e f v x y i (omega arith) ∙
    rw (up_to_whole e x (i + 1) (omega arith), up_to_whole e y (i + 1 + size x) (omega arith))

-- one that does not is grown up to the end
pub up_to_size : (e : ℕ) (t : Tree) (i : ℕ) → i ≤ e → e ≤ i + size t → i + size (up_to e t i) ≡ e
unfolding size
up_to_size e bud i h k = rw (up_to_bud e i) (omega arith)
up_to_size e (leaf l) i h k = go (within_or_over e i)
  where
    go : WithinOrOver e i → i + size (up_to e (leaf l) i) ≡ e
    go (at_most m) = rw (up_to_end e (leaf l) i m) (omega arith)
    go (over m) = rw (up_to_leaf e l i m) (omega arith)
up_to_size e (cut f v x y) i h k =
    go (within_or_over e i) (within_or_over e (i + 1 + size x)) (λ m n. up_to_size e x (i + 1) m n)
    (λ m n. up_to_size e y (i + 1 + size x) m n)
  where
    go :
        WithinOrOver e i → WithinOrOver e (i + 1 + size x) →
        (i + 1 ≤ e → e ≤ i + 1 + size x → i + 1 + size (up_to e x (i + 1)) ≡ e) →
        (i + 1 + size x ≤ e → e ≤ i + 1 + size x + size y → i + 1 + size x + size (up_to e y (i + 1 + size x)) ≡ e) →
        i + size (up_to e (cut f v x y) i) ≡ e
    go (at_most m) n p q = rw (up_to_end e (cut f v x y) i m) (omega arith)
    go (over m) (at_most n) p q =
        rw (up_to_cut e f v x y i m, up_to_end e y (i + 1 + size x) n) (omega (arith, p (omega arith) n))
    go (over m) (over n) p q =
        rw (up_to_cut e f v x y i m, up_to_whole e x (i + 1) (omega arith))
        (omega (arith, q (omega arith) (omega arith)))

-- the right part of a cut is grown alike from where its left part ends and from where what is grown of that ends
pub up_to_right :
    (e : ℕ) (x : Tree) (i : ℕ) (y : ℕ → Tree) → i ≤ e →
    up_to e (y (i + size (up_to e x i))) (i + size (up_to e x i)) ≡ up_to e (y (i + size x)) (i + size x)
up_to_right e x i y h = go (within_or_over e (i + size x))
  where
    go :
        WithinOrOver e (i + size x) →
        up_to e (y (i + size (up_to e x i))) (i + size (up_to e x i)) ≡ up_to e (y (i + size x)) (i + size x)
    go (at_most m) =
        up_to_end e (y (i + size (up_to e x i))) _ (omega (arith, up_to_size e x i h m)) ∙
        sym (up_to_end e (y (i + size x)) (i + size x) m)
    go (over m) = rw (up_to_whole e x i (omega arith))

-- the right child of what is grown of a cut is where its right part begins, if that is before the end, else 0
pub up_to_child :
    (e : ℕ) (x y : Tree) (i : ℕ) → i ≤ e → 0 < size y →
    child_before e (i + size (up_to e x i)) ≡ right_child (up_to e y (i + size x)) (i + size (up_to e x i))
unfolding child_before right_child
up_to_child e x y i h some = go (within_or_over e (i + size x))
  where
    go :
        WithinOrOver e (i + size x) →
        child_before e (i + size (up_to e x i)) ≡ right_child (up_to e y (i + size x)) (i + size (up_to e x i))
    go (at_most m) =
        rw (up_to_end e y (i + size x) m, le-ltb (i + size (up_to e x i)) e (omega (arith, up_to_size e x i h m)))
    go (over m) =
        rw (up_to_whole e x i (omega arith), lt-ltb (i + size x) e m)
        (sym (right_child_lem (up_to e y (i + size x)) (i + size x) (up_to_some e y (i + size x) m some)))
