-- What is grown of a full tree before a node lies in its words.
use Prim.Native.Nat.{ℕ, ◌+◌, ◌≤◌}
use native.Mathlib.Omega.{arith}
use mathlib.Core.Path.{◌≡◌}
use Rattle.facts.proofs.Cases.{WithinOrOver, at_most, over, within_or_over}
use Rattle.built.specs.Trees.{Tree, leaf, cut}
use Rattle.built.specs.Layout.{size, pooled, laid}
use Rattle.built.specs.Stops.{up_to}
use Rattle.built.proofs.Lying.{Lies, Till, at_bud, at_leaf, at_cut, laid_lies}
use Rattle.built.proofs.FullTrees.{Full, full_leaf, full_cut, full_till}
use Rattle.built.proofs.Stopping.{up_to_end, up_to_leaf, up_to_cut, up_to_whole, up_to_size}

-- each part of it that is not begun is to begin at the end
stop_till : {t : Tree} (e : ℕ) → Full t → (i : ℕ) → i ≤ e → Till e (up_to e t i) i
stop_till e (full_leaf {l = l}) i h = go (within_or_over e i)
  where
    go : WithinOrOver e i → Till e (up_to e (leaf l) i) i
    go (at_most m) = rw (up_to_end e (leaf l) i m) (at_bud {i = i} (omega arith))
    go (over m) = rw (up_to_leaf e l i m) at_leaf
stop_till e (full_cut {f = f} {v = v} {x = x} {y = y} p q) i h =
    go (within_or_over e i) (within_or_over e (i + 1 + size x)) (λ m. stop_till e p (i + 1) m)
    (λ m. stop_till e q (i + 1 + size x) m)
  where
    right :
        WithinOrOver e (i + 1 + size x) → i + 1 ≤ e →
        (i + 1 + size x ≤ e → Till e (up_to e y (i + 1 + size x)) (i + 1 + size x)) →
        Till e (up_to e y (i + 1 + size x)) (i + 1 + size (up_to e x (i + 1)))
    right (at_most n) m r =
        rw (up_to_end e y (i + 1 + size x) n) (at_bud (up_to_size e x (i + 1) m n))
    right (over n) m r = rw (up_to_whole e x (i + 1) (omega arith)) (r (omega arith))

    go :
        WithinOrOver e i → WithinOrOver e (i + 1 + size x) → (i + 1 ≤ e → Till e (up_to e x (i + 1)) (i + 1)) →
        (i + 1 + size x ≤ e → Till e (up_to e y (i + 1 + size x)) (i + 1 + size x)) →
        Till e (up_to e (cut f v x y) i) i
    go (at_most m) n l r = rw (up_to_end e (cut f v x y) i m) (at_bud {i = i} (omega arith))
    go (over m) n l r = rw (up_to_cut e f v x y i m) (at_cut (l (omega arith)) (right n (omega arith) r))

-- what is grown of a full tree before node e lies in its words
pub stop_lies :
    {t : Tree} (e : ℕ) → Full t → Lies (laid (up_to e t 0) 0 0) (pooled (up_to e t 0)) (up_to e t 0) 0 0
stop_lies {t} e f = laid_lies (up_to e t 0) (go (within_or_over e (size t)))
  where
    go : WithinOrOver e (size t) → Till (size (up_to e t 0)) (up_to e t 0) 0
    go (at_most h) =
        let n : size (up_to e t 0) ≡ e = omega (arith, up_to_size e t 0 (omega arith) (omega arith)) in
        rw n (stop_till e f 0 (omega arith))
    go (over h) = rw (up_to_whole e t 0 (omega arith)) (full_till f (size t) 0)
