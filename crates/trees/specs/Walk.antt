-- The walk of a header from node to node, on any words. Definitions only.
--   side_of nodes h i     where h goes from cut i: to the next node where its field is at most the value, else right
--   step_of nodes h i     node i is a leaf; or wrong; or the walk goes on. It is wrong where it is not wholly there, its
--                        first word is over 5, or its right child is not above itself, whichever way is taken
--   Walk                 lost at a node that is wrong; or came past these cuts, from the first on, to a leaf
--   walk k nodes h i     the walk from node i, of at most k nodes; numbers rise on the way, so node_count are enough
--   visited              the length of the path: the cuts and the leaf
use Rattle.std.specs.Prelude.{ℕ, zero, suc, ◌+◌, cond, List, [], ◌∷◌, length, get_or, leb, ltb, eqb}
use Rattle.trees.specs.declared.walk.Step.{Step}
use Rattle.trees.specs.declared.walk.Step.TheVariants.{Wrong, Leaf, Next}
use Rattle.trees.specs.Words.{leaf_mark, node_count, field_of, value_of, child_of}

unfoldable pub side_of : List ℕ → List ℕ → ℕ → ℕ
side_of nodes h i = cond (leb (get_or h (field_of nodes i) 0) (value_of nodes i)) (i + 1) (child_of nodes i)

unfoldable pub step_of : List ℕ → List ℕ → ℕ → Step
step_of nodes h i =
    cond (ltb i (node_count nodes))
    (cond (eqb (field_of nodes i) leaf_mark) Leaf
    (cond (ltb leaf_mark (field_of nodes i)) Wrong
    (cond (leb (child_of nodes i) i) Wrong (Next (side_of nodes h i)))))
    Wrong

pub data Walk : Type 0 where
  lost : ℕ → Walk
  came : List ℕ → ℕ → Walk

abbrev pub past : ℕ → Walk → Walk
past i (lost j) = lost j
past i (came cuts leaf) = came (i ∷ cuts) leaf

abbrev pub onward : Step → ℕ → (ℕ → Walk) → Walk
onward Wrong i rest = lost i
onward Leaf i rest = came [] i
onward (Next j) i rest = past i (rest j)

unfoldable pub walk : ℕ → List ℕ → List ℕ → ℕ → Walk
walk zero nodes h i = lost i
walk (suc k) nodes h i = onward (step_of nodes h i) i (walk k nodes h)

unfoldable pub walk_of : List ℕ → List ℕ → Walk
walk_of nodes h = walk (node_count nodes) nodes h 0

abbrev pub leaf_of : Walk → ℕ
leaf_of (lost i) = i
leaf_of (came cuts leaf) = leaf

abbrev pub visited : Walk → ℕ
visited (lost i) = 0
visited (came cuts leaf) = length cuts + 1
