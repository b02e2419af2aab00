-- What comes out of anyone's part: what is whole may serve and begins with the part's own nodes; what is stopped may be
-- gone on with, to the same tree.
use Rattle.std.specs.Prelude.{Err}
use Rattle.builder.specs.Said.{Stopped, Whole}
use Prim.Native.Nat.{ℕ, ◌+◌, ◌*◌}
use native.Mathlib.Omega.{arith}
use mathlib.Core.Path.{◌≡◌, sym, ◌∙◌}
use mathlib.Core.List.{List}
use lib.ListN.{length, take}
use Rattle.refusals.specs.declared.Refusal.{Refusal}
use Rattle.refusals.specs.Verdict as verdict
use Rattle.rules.specs.Words.{rule_count}
use Rattle.trees.specs.Words.{node_words, node_count}
use Rattle.tree_check.specs.Serves.{Serves}
use Rattle.tree_check.specs.PartCheck.{so_far_verdict}
use Rattle.tree_check.proofs.PartStages.{part_taken}
use Rattle.built.specs.Boxes.{boxes_of}
use Rattle.built.specs.Trees.{Tree}
use Rattle.built.specs.GrownOn.{tree_on}
use Rattle.built.specs.Stops.{up_to, stop_nodes, stop_pool}
use Rattle.built.proofs.FullTrees.{full_some}
use Rattle.built.proofs.Stopping.{up_to_some}
use Rattle.built.proofs.Covering.{covers_full}
use Rattle.built.proofs.Accepting.{fit_sizes, covers_serves}
use Rattle.built.proofs.StopTaken.{stop_taken}
use Rattle.built.proofs.StopLaws.{stop_nodes_lem, stop_pool_lem}
use Rattle.built.proofs.FromStop.{on_again}
use Rattle.built.proofs.PartTaken.{part_covers, part_within, part_kept}
use Rattle.builder.specs.Build.{at_least_one, OnBuilt}
use Rattle.builder.proofs.BuildAnswers.{step_refuses}
use Rattle.builder.proofs.StepCalls.{stands_front, step_whole, step_stopped}
use Rattle.builder.proofs.StopCalls.{at_least_one_lem}

module _ (rs : List ℕ) (n : ℕ) (part kept : List ℕ) (most : ℕ) where
  -- the tree that is grown from the part, and where the step stops
  abbrev tree : Tree
  tree = tree_on (boxes_of rs) part kept

  abbrev end : ℕ
  end = node_count part + at_least_one most

  -- a part that is not taken is refused so, and both outputs are as found
  pub part_refused :
      {nodes pool : List ℕ} {why : Refusal} → so_far_verdict rs n part kept ≡ verdict.Refused why →
      OnBuilt rs n part kept most nodes pool (Err why) nodes pool
  part_refused q = step_refuses end tree q

  module _ {nodes pool nodes' pool' : List ℕ} where
    module _ {m p : ℕ} (w : OnBuilt rs n part kept most nodes pool (Whole m p) nodes' pool') where
      -- what is whole may serve the list
      pub part_serves : Serves rs (take (m * node_words) nodes') (take p pool')
      part_serves =
          let u = step_whole (so_far_verdict rs n part kept) end tree w in
          let front = stands_front u.1 in
          let list = (part_taken rs n part kept u.0).2.list in
          rw (front.0, front.1)
          (covers_serves rs tree (part_covers rs n part kept u.0) (length nodes) (length pool) list u.1.fits)

      -- the part is its stop after as many nodes as the part has
      pub part_in_whole :
          (part ≡ stop_nodes (node_count part) (take (m * node_words) nodes')) ×
          (kept ≡ stop_pool (node_count part) (take (m * node_words) nodes') (take p pool'))
      part_in_whole =
          let u = step_whole (so_far_verdict rs n part kept) end tree w in
          let front = stands_front u.1 in
          let c = part_covers rs n part kept u.0 in
          let own = part_kept rs n part kept u.0 in
          let short = part_within rs n part kept u.0 in (
            sym own.0 ∙ rw front.0 (stop_nodes_lem rs tree c (node_count part) short),
            sym own.1 ∙ rw (front.0, front.1) (stop_pool_lem rs tree c (node_count part) short),
          )

    -- what is stopped may be gone on with, and what is grown from it is the same tree
    pub part_goes_on :
        {k p : ℕ} → OnBuilt rs n part kept most nodes pool (Stopped k p) nodes' pool' →
        (k ≡ node_count part + at_least_one most) ×
        (so_far_verdict rs (rule_count rs) (take (k * node_words) nodes') (take p pool') ≡ verdict.Fine) ×
        (tree_on (boxes_of rs) (take (k * node_words) nodes') (take p pool') ≡ tree_on (boxes_of rs) part kept)
    part_goes_on w =
        let u = step_stopped (so_far_verdict rs n part kept) end tree w in
        let c = part_covers rs n part kept u.0 in
        let front = stands_front u.1 in
        let short = u.3 in
        let begun =
        up_to_some end tree 0 (omega (arith, at_least_one_lem most)) (full_some (covers_full c)) in
        let sizes = fit_sizes (up_to end tree 0) (length nodes) (length pool) begun u.1.fits in
        let list = (part_taken rs n part kept u.0).2.list in (
          u.2,
          rw (front.0, front.1) (stop_taken rs tree c end list sizes),
          rw (front.0, front.1) (on_again (boxes_of rs) part kept end (omega arith) (omega arith)),
        )
