-- The tree that is grown from nodes that stand already. Definitions only.
--   joined             a cut whose right part begins after its left part
--   standing           a node as it stands: a leaf with its entries, or a cut; or else what is grown
--   grown_on k n boxes nodes pool b i   the tree of box b, its first node being node i, with k more cuts allowed, where
--                      these nodes stand: each is as it stands, and what does not stand is grown. With no cuts allowed
--                      a cut that stands is a leaf
--   tree_on boxes nodes pool   the tree of the root's box
use Rattle.std.specs.Prelude.{ℕ, zero, suc, ◌+◌, List, ltb}
use Rattle.fields.specs.Words.{field_count}
use Rattle.fields.specs.Boxes.{root_box}
use Rattle.fields.specs.Cuts.{left_part, right_part}
use Rattle.trees.specs.Words.{node_count, field_of, value_of, entries}
use Rattle.trees.specs.Spelt.{is_cut}
use Rattle.tree_check.specs.Whole.{most_cuts}
use Rattle.built.specs.Boxes.{meeting}
use Rattle.built.specs.Trees.{Tree, leaf, cut, pick, grown}
use Rattle.built.specs.Layout.{size}

-- a cut whose right part begins after its left part
abbrev pub joined : ℕ → ℕ → ℕ → Tree → (ℕ → Tree) → Tree
joined f v i x right = cut f v x (right (i + 1 + size x))

unfoldable pub standing : List ℕ → List ℕ → ℕ → (Unit {0} → Tree) → (Unit {0} → Tree) → Tree
standing nodes pool i divided fresh =
    pick (ltb i (node_count nodes)) (λ _. pick (is_cut nodes i) divided (λ _. leaf (entries nodes pool i))) fresh

unfoldable pub grown_on : ℕ → ℕ → List (List (List ℕ)) → List ℕ → List ℕ → List (List ℕ) → ℕ → Tree
grown_on zero n boxes nodes pool b i =
    standing nodes pool i (λ _. leaf (meeting n boxes b)) (λ _. grown zero n boxes b)
grown_on (suc k) n boxes nodes pool b i =
    standing nodes pool i
    (λ _.
    let f = field_of nodes i in
    let v = value_of nodes i in
    joined f v i (grown_on k n boxes nodes pool (left_part b f v) (i + 1))
    (λ j. grown_on k n boxes nodes pool (right_part b f v) j))
    (λ _. grown (suc k) n boxes b)

abbrev pub tree_on : List (List (List ℕ)) → List ℕ → List ℕ → Tree
tree_on boxes nodes pool = grown_on most_cuts field_count boxes nodes pool root_box 0
