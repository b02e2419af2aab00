-- The words of a tree: their equations, and how many there are.
use Prim.Native.Nat.{ℕ, ◌+◌, ◌*◌, ◌≤◌, ◌<◌}
use native.Mathlib.Omega.{arith}
use mathlib.Core.Path.{◌≡◌, refl}
use mathlib.Core.List.{List, [], ◌∷◌, ◌++◌}
use lib.ListN.{length, length-append}
use Rattle.trees.specs.Words.{node_words, leaf_mark, node_count}
use Rattle.built.specs.Trees.{Tree, bud, leaf, cut}
use Rattle.built.specs.Layout.{size, pooled, right_child, laid}

-- a part that is not begun has no nodes
pub size_bud : size bud ≡ 0
unfolding size
size_bud = refl

-- a leaf is one node
pub size_leaf : (l : List ℕ) → size (leaf l) ≡ 1
unfolding size
size_leaf l = refl

-- a cut has one node more than its two parts
pub size_cut : (f v : ℕ) (x y : Tree) → size (cut f v x y) ≡ 1 + size x + size y
unfolding size
size_cut f v x y = refl

-- a leaf has a node
pub leaf_some : (l : List ℕ) → 0 < size (leaf l)
unfolding size
leaf_some l = omega arith

-- so has a cut
pub cut_some : (f v : ℕ) (x y : Tree) → 0 < size (cut f v x y)
unfolding size
cut_some f v x y = omega arith

-- a leaf's entries are its own
pub pooled_leaf : (l : List ℕ) → pooled (leaf l) ≡ l
unfolding pooled
pooled_leaf l = refl

-- a cut's entries are those of its left part and then those of its right part
pub pooled_cut : (f v : ℕ) (x y : Tree) → pooled (cut f v x y) ≡ pooled x ++ pooled y
unfolding pooled
pooled_cut f v x y = refl

-- a cut has as many entries as its two parts
pub length_pooled : (f v : ℕ) (x y : Tree) → length (pooled (cut f v x y)) ≡ length (pooled x) + length (pooled y)
unfolding pooled
length_pooled f v x y = length-append (pooled x) (pooled y)

-- a right part that is begun begins at the right child
pub right_child_lem : (y : Tree) (j : ℕ) → 0 < size y → right_child y j ≡ j
unfolding right_child size
right_child_lem bud j h = absurd (omega arith)
right_child_lem (leaf l) j h = refl
right_child_lem (cut f v x y) j h = refl

-- the right child is below any number that the right part ends at or before, but 0
pub right_child_below : (y : Tree) (j m : ℕ) → j + size y ≤ m → 0 < m → right_child y j < m
unfolding right_child size
right_child_below bud j m h some = some
right_child_below (leaf l) j m h some = omega arith
right_child_below (cut f v x y) j m h some = omega arith

-- a part that is not begun has no words
pub laid_bud : (i s : ℕ) → laid bud i s ≡ []
unfolding laid
laid_bud i s = refl

-- a leaf's words are the mark, where its entries start, and how many there are
pub laid_leaf : (l : List ℕ) (i s : ℕ) → laid (leaf l) i s ≡ leaf_mark ∷ s ∷ length l ∷ []
unfolding laid
laid_leaf l i s = refl

-- a cut's words are its field, its value, its right child, and then those of its left part and of its right part
pub laid_cut :
    (f v : ℕ) (x y : Tree) (i s : ℕ) →
    laid (cut f v x y) i s ≡
    f ∷ v ∷ right_child y (i + 1 + size x) ∷
    (laid x (i + 1) s ++ laid y (i + 1 + size x) (s + length (pooled x)))
unfolding laid
laid_cut f v x y i s = refl

-- each node has three words
pub length_laid : (t : Tree) (i s : ℕ) → length (laid t i s) ≡ size t * node_words
unfolding laid size
length_laid bud i s = refl
length_laid (leaf l) i s = refl
length_laid (cut f v x y) i s =
    omega (
      arith,
      length-append (laid x (i + 1) s) (laid y (i + 1 + size x) (s + length (pooled x))),
      length_laid x (i + 1) s,
      length_laid y (i + 1 + size x) (s + length (pooled x)),
    )

-- the words of a tree are as many whole nodes as it has
pub count_laid : (t : Tree) (i s : ℕ) → node_count (laid t i s) ≡ size t
count_laid t i s = omega (arith, length_laid t i s)
