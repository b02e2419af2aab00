-- What the steps of the tree writer ask for. Definitions only.
--   Writable nodes pool i    node i can be written: it is there, and the entries of a leaf lie in the pool
use Rattle.std.specs.Prelude.{ℕ, ◌+◌, ◌≤◌, ◌<◌, List, length}
use Rattle.trees.specs.Words.{leaf_mark, most_nodes, node_count, field_of, start_of, count_of}

pub record Writable (nodes pool : List ℕ) (i : ℕ) : Type 0 where
  pub there : i < node_count nodes
  pub few : node_count nodes ≤ most_nodes
  pub part : leaf_mark ≤ field_of nodes i → start_of nodes i + count_of nodes i ≤ length pool
