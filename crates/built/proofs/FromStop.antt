-- Going on from a stop of a list's tree: it is taken, and what is grown from it is the list's tree.
use Prim.Native.Nat.{ℕ, ◌≤◌}
use native.Mathlib.Omega.{arith}
use mathlib.Core.Path.{◌≡◌, sym, ◌∙◌}
use mathlib.Core.List.{List, []}
use Rattle.refusals.specs.Verdict.{Fine}
use Rattle.fields.specs.Words.{field_count}
use Rattle.fields.specs.Boxes.{root_box}
use Rattle.rules.specs.Words.{rule_count}
use Rattle.trees.specs.Words.{node_count}
use Rattle.tree_check.specs.Whole.{most_cuts}
use Rattle.tree_check.specs.PartCheck.{so_far_verdict}
use Rattle.built.specs.Boxes.{boxes_of}
use Rattle.built.specs.Layout.{size, pooled, laid}
use Rattle.built.specs.GrownOn.{tree_on}
use Rattle.built.specs.Stops.{up_to}
use Rattle.built.specs.BuiltTree.{built_tree}
use Rattle.built.specs.StopOf.{StopOf}
use Rattle.built.proofs.Laying.{count_laid}
use Rattle.built.proofs.GrowingOn.{on_nothing}
use Rattle.built.proofs.FullTrees.{on_full}
use Rattle.built.proofs.Stopping.{up_to_size}
use Rattle.built.proofs.StopLies.{stop_lies}
use Rattle.built.proofs.Covering.{built_covers}
use Rattle.built.proofs.StopTaken.{stop_taken}
use Rattle.built.proofs.OnStop.{on_stop}
use Rattle.built.proofs.StopLaws.{stop_nodes_lem, stop_pool_lem}

-- what is grown from a stop of a tree, that was itself grown from no more nodes, is that tree
pub on_again :
    (boxes : List (List (List ℕ))) (nodes pool : List ℕ) (k : ℕ) → node_count nodes ≤ k →
    k ≤ size (tree_on boxes nodes pool) →
    let p = up_to k (tree_on boxes nodes pool) 0 in tree_on boxes (laid p 0 0) (pooled p) ≡ tree_on boxes nodes pool
on_again boxes nodes pool k few short =
    let t = tree_on boxes nodes pool in
    let p = up_to k t 0 in
    let n : node_count (laid p 0 0) ≡ k =
    omega (arith, count_laid p 0 0, up_to_size k t 0 (omega arith) (omega arith)) in
    on_stop boxes nodes pool (laid p 0 0) (pooled p) (omega arith) most_cuts root_box 0 0
    (rw n (stop_lies k (on_full most_cuts field_count boxes nodes pool root_box 0)))

-- where no node stands, the tree is that of the list
pub from_nothing : (rs : List ℕ) → tree_on (boxes_of rs) [] [] ≡ built_tree rs
unfolding built_tree
from_nothing rs = on_nothing most_cuts field_count (boxes_of rs) [] root_box 0

module _ (rs : List ℕ) (k : ℕ) (part kept : List ℕ) (s : StopOf rs k part kept) where
  -- the words of a stop are those of what is grown before node k
  words : (laid (up_to k (built_tree rs) 0) 0 0 ≡ part) × (pooled (up_to k (built_tree rs) 0) ≡ kept)
  words = (
    stop_nodes_lem rs (built_tree rs) (built_covers rs) k (omega (arith, s.short)) ∙ sym s.nodes_are,
    stop_pool_lem rs (built_tree rs) (built_covers rs) k (omega (arith, s.short)) ∙ sym s.pool_is,
  )

  -- a stop after k nodes has k nodes
  pub stop_count : node_count part ≡ k
  stop_count =
      let p = up_to k (built_tree rs) 0 in
      let n : node_count (laid p 0 0) ≡ k =
      omega (arith, count_laid p 0 0, up_to_size k (built_tree rs) 0 (omega arith) (omega (arith, s.short))) in
      rw words.0 at n

  -- it is taken, for the list's own number of rules
  pub stop_fine : so_far_verdict rs (rule_count rs) part kept ≡ Fine
  stop_fine =
      let w = words in
      rw (w.0, w.1) at
      (stop_taken rs (built_tree rs) (built_covers rs) k s.list (rw (w.0, w.1) s.sizes))

  -- what is grown from it is the list's tree
  pub stop_on : tree_on (boxes_of rs) part kept ≡ built_tree rs
  stop_on =
      let w = words in
      let e = from_nothing rs in
      let again = on_again (boxes_of rs) [] [] k (omega arith) (rw e (omega (arith, s.short))) in
      rw (e, w.0, w.1) at again
