-- Of a tree that is grown up to a node few parts are not begun.
--   buds t    the number of parts of the tree t that are not begun
use Prim.Native.Nat.{ℕ, suc, ◌+◌, ◌≤◌}
use native.Mathlib.Omega.{arith}
use mathlib.Core.Bool.{false}
use mathlib.Core.Path.{◌≡◌, refl}
use mathlib.Core.List.{List}
use Rattle.facts.proofs.Cases.{WithinOrOver, at_most, over, within_or_over}
use Rattle.built.specs.Trees.{Tree, bud, leaf, cut}
use Rattle.built.specs.Layout.{size}
use Rattle.built.specs.Stops.{up_to}
use Rattle.built.proofs.FullTrees.{Full, full_leaf, full_cut}
use Rattle.built.proofs.Stopping.{up_to_end, up_to_leaf, up_to_cut, up_to_whole}
use Rattle.built.proofs.Covering.{Covers, by_bud, by_leaf, by_cut, covers_full}

unfoldable pub buds : Tree → ℕ
buds bud = 1
buds (leaf l) = 0
buds (cut f v x y) = buds x + buds y

-- every part of a full tree is begun
pub buds_none : {t : Tree} → Full t → buds t ≡ 0
unfolding buds
buds_none full_leaf = refl
buds_none (full_cut p q) = omega (arith, buds_none p, buds_none q)

-- at most one part for each cut above a leaf, and one more, is not begun of a tree that is grown up to a node
pub buds_few :
    {rs : List ℕ} {k : ℕ} {b : List (List ℕ)} {t : Tree} (e : ℕ) → Covers false rs k b t → (i : ℕ) →
    buds (up_to e t i) ≤ k + 1
unfolding buds
buds_few e (by_bud f) i = let z : ◌≡◌ {A = ℕ} 0 1 = cc in absurd (omega arith)
buds_few e (by_leaf {k = k} {l = l} w) i = go (within_or_over e i)
  where
    go : WithinOrOver e i → buds (up_to e (leaf l) i) ≤ k + 1
    go (at_most m) = rw (up_to_end e (leaf l) i m) (omega arith)
    go (over m) = rw (up_to_leaf e l i m) (omega arith)
buds_few e (by_cut {k = k} {f = f} {v = v} {x = x} {y = y} u d p q) i =
    go (within_or_over e i) (within_or_over e (i + 1 + size x)) (buds_few e p (i + 1))
    (buds_few e q (i + 1 + size x))
  where
    go :
        WithinOrOver e i → WithinOrOver e (i + 1 + size x) → buds (up_to e x (i + 1)) ≤ k + 1 →
        buds (up_to e y (i + 1 + size x)) ≤ k + 1 → buds (up_to e (cut f v x y) i) ≤ suc k + 1
    go (at_most m) n a b = rw (up_to_end e (cut f v x y) i m) (omega arith)
    go (over m) (at_most n) a b =
        rw (up_to_cut e f v x y i m, up_to_end e y (i + 1 + size x) n) (omega arith)
    go (over m) (over n) a b =
        let whole = up_to_whole e x (i + 1) (omega arith) in
        rw (up_to_cut e f v x y i m, whole) (omega (arith, buds_none (covers_full p)))
