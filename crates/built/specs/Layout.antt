-- The words of a tree, in preorder, and whether they fit. Definitions only.
--   size t             the number of its nodes
--   pooled t           its entries, leaf by leaf
--   right_child y j    the right child of a cut whose right part y is to begin at node j: 0 where it is not begun
--   laid t i s         the words of its nodes, its first being node i, and its entries starting at place s of the pool
--   node_fits i a      4 at node i, where the words of the nodes up to and including it are more than a
--   entries_fit s b    4 with extra 1, where the entries of the leaves up to and including a leaf, s, are more than b
--   fits t i s a b     each node in preorder: its words, and then, of a leaf, the entries so far
use Rattle.std.specs.Prelude.{ℕ, ◌+◌, ◌*◌, List, [], ◌∷◌, ◌++◌, length, leb}
use Rattle.refusals.specs.declared.Refusal.TheVariants.{OutputShort}
use Rattle.refusals.specs.Verdict.{Verdict}
use Rattle.refusals.specs.Verdict.{Fine}
use Rattle.refusals.specs.Order.{refuse_unless, ◌then◌}
use Rattle.trees.specs.Words.{node_words, leaf_mark}
use Rattle.built.specs.Trees.{Tree, bud, leaf, cut}

unfoldable pub size : Tree → ℕ
size bud = 0
size (leaf l) = 1
size (cut f v x y) = 1 + size x + size y

unfoldable pub pooled : Tree → List ℕ
pooled bud = []
pooled (leaf l) = l
pooled (cut f v x y) = pooled x ++ pooled y

unfoldable pub right_child : Tree → ℕ → ℕ
right_child bud j = 0
right_child (leaf l) j = j
right_child (cut f v x y) j = j

unfoldable pub laid : Tree → ℕ → ℕ → List ℕ
laid bud i s = []
laid (leaf l) i s = leaf_mark ∷ s ∷ length l ∷ []
laid (cut f v x y) i s =
    f ∷ v ∷ right_child y (i + 1 + size x) ∷
    (laid x (i + 1) s ++ laid y (i + 1 + size x) (s + length (pooled x)))

unfoldable pub node_fits : ℕ → ℕ → Verdict
node_fits i a = refuse_unless (leb ((i + 1) * node_words) a) (OutputShort ((i + 1) * node_words) 0)

unfoldable pub entries_fit : ℕ → ℕ → Verdict
entries_fit s b = refuse_unless (leb s b) (OutputShort s 1)

unfoldable pub fits : Tree → ℕ → ℕ → ℕ → ℕ → Verdict
fits bud i s a b = Fine
fits (leaf l) i s a b = node_fits i a then entries_fit (s + length l) b
fits (cut f v x y) i s a b =
    node_fits i a then fits x (i + 1) s a b then fits y (i + 1 + size x) (s + length (pooled x)) a b
