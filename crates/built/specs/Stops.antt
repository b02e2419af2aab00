-- A tree whose building is stopped. Definitions only.
--   up_to e t i         of the tree t, whose first node is node i, the nodes below e: each part that begins at e or
--                      later is not begun
--   child_before e j   the right child of a cut whose right part is to begin at node j: 0 where j is not below e
--   last_open t        the last part of the tree is not begun
--   stop_node k nodes i    the words of node i, a right child that is k or more being 0
--   nodes_below k nodes m  those of the nodes below m
--   stop_nodes k nodes  the first k of some nodes, with 0 for each right child that is k or more
--   stop_pool k nodes pool  the entries of the leaves among them
use Rattle.std.specs.Prelude.{ℕ, zero, suc, ◌+◌, Bool, true, false, cond, ◌&&◌, List, [], ◌∷◌, ◌++◌, take, leb, ltb}
use Rattle.trees.specs.Words.{field_of, value_of, child_of}
use Rattle.trees.specs.Spelt.{is_cut, counts_below}
use Rattle.built.specs.Trees.{Tree, bud, leaf, cut, pick}
use Rattle.built.specs.Layout.{size}

unfoldable pub up_to : ℕ → Tree → ℕ → Tree
up_to e bud i = bud
up_to e (leaf l) i = pick (ltb i e) (λ _. leaf l) (λ _. bud)
up_to e (cut f v x y) i =
    pick (ltb i e) (λ _. cut f v (up_to e x (i + 1)) (up_to e y (i + 1 + size x))) (λ _. bud)

unfoldable pub child_before : ℕ → ℕ → ℕ
child_before e j = cond (ltb j e) j 0

unfoldable pub last_open : Tree → Bool
last_open bud = true
last_open (leaf l) = false
last_open (cut f v x y) = last_open y

unfoldable pub stop_node : ℕ → List ℕ → ℕ → List ℕ
stop_node k nodes i =
    field_of nodes i ∷ value_of nodes i ∷ cond (is_cut nodes i && leb k (child_of nodes i)) 0 (child_of nodes i) ∷ []

unfoldable pub nodes_below : ℕ → List ℕ → ℕ → List ℕ
nodes_below k nodes zero = []
nodes_below k nodes (suc i) = nodes_below k nodes i ++ stop_node k nodes i

abbrev pub stop_nodes : ℕ → List ℕ → List ℕ
stop_nodes k nodes = nodes_below k nodes k

abbrev pub stop_pool : ℕ → List ℕ → List ℕ → List ℕ
stop_pool k nodes pool = take (counts_below nodes k) pool
