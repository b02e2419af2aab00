-- A stop of a list's tree. Definitions only.
--   StopOf rs k nodes pool    these words are the stop after k nodes of the tree of a good list, which has more than k:
--                             its first k nodes, with 0 for each right child that is k or more, and their entries;
--                             and they are no more than a tree may have
use Rattle.std.specs.Prelude.{ℕ, ◌<◌, ◌≡◌, List}
use Rattle.refusals.specs.Verdict.{Fine}
use Rattle.rules.specs.Good.{list_verdict}
use Rattle.trees.specs.Words.{size_verdict}
use Rattle.built.specs.Layout.{size}
use Rattle.built.specs.Stops.{stop_nodes, stop_pool}
use Rattle.built.specs.BuiltTree.{built_tree, built_nodes, built_pool}

pub record StopOf (rs : List ℕ) (k : ℕ) (nodes pool : List ℕ) : Type 0 where
  pub list : list_verdict rs ≡ Fine
  pub some : 0 < k
  pub short : k < size (built_tree rs)
  pub nodes_are : nodes ≡ stop_nodes k (built_nodes rs)
  pub pool_is : pool ≡ stop_pool k (built_nodes rs) (built_pool rs)
  pub sizes : size_verdict nodes pool ≡ Fine
