-- The ways from a node to the leaves of its part. Definitions only.
--   left_box nodes b i, right_box nodes b i  the boxes of the two parts of cut i, its own being b
--   Divides nodes b i             node i is there and is a cut, and its value divides its box b
--   Leads nodes b i cuts x d      from node i, its box being b, the way past these cuts, from the first on, comes to
--                                 leaf x, which is there and whose box is d. In a tree so far a right child of 0 is
--                                 not begun, and no way goes there
use Rattle.std.specs.Prelude.{ℕ, ◌+◌, ◌≤◌, ◌<◌, List, [], ◌∷◌}
use Rattle.fields.specs.Boxes.{low_of, high_of}
use Rattle.fields.specs.Cuts.{left_of, right_of}
use Rattle.trees.specs.Words.{leaf_mark, node_count, field_of, value_of, child_of}

abbrev pub left_box : List ℕ → List (List ℕ) → ℕ → List (List ℕ)
left_box nodes b i = left_of b (field_of nodes i) (value_of nodes i)

abbrev pub right_box : List ℕ → List (List ℕ) → ℕ → List (List ℕ)
right_box nodes b i = right_of b (field_of nodes i) (value_of nodes i)

pub record Divides (nodes : List ℕ) (b : List (List ℕ)) (i : ℕ) : Type 0 where
  pub there : i < node_count nodes
  pub field : field_of nodes i < leaf_mark
  pub low : low_of b (field_of nodes i) ≤ value_of nodes i
  pub high : value_of nodes i < high_of b (field_of nodes i)

pub data Leads (nodes : List ℕ) : List (List ℕ) → ℕ → List ℕ → ℕ → List (List ℕ) → Type 0 where
  here :
      {b : List (List ℕ)} {i : ℕ} → i < node_count nodes → leaf_mark ≤ field_of nodes i → Leads nodes b i [] i b
  to_left :
      {b d : List (List ℕ)} {i x : ℕ} {cuts : List ℕ} → Divides nodes b i →
      Leads nodes (left_box nodes b i) (i + 1) cuts x d → Leads nodes b i (i ∷ cuts) x d
  to_right :
      {b d : List (List ℕ)} {i x : ℕ} {cuts : List ℕ} → Divides nodes b i → 0 < child_of nodes i →
      Leads nodes (right_box nodes b i) (child_of nodes i) cuts x d → Leads nodes b i (i ∷ cuts) x d
