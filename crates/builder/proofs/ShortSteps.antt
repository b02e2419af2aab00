-- When a step is refused with 4: exactly for the first node before its stop that does not fit.
use Rattle.std.specs.Prelude.{Err}
use Prim.Native.Nat.{ℕ, ◌+◌, ◌*◌, min}
use mathlib.Core.Bool.{false}
use mathlib.Core.Path.{◌≡◌, refl, sym, ◌∙◌}
use mathlib.Core.Logic.{◌↔◌}
use mathlib.Core.List.{List}
use lib.ListN.{length}
use Rattle.refusals.specs.declared.Refusal.{Refusal}
use Rattle.refusals.specs.Verdict.{Verdict}
use Rattle.refusals.specs.Verdict as verdict
use Rattle.refusals.proofs.Order.{then_fine}
use Rattle.refusals.proofs.Promises.{writes_refused}
use Rattle.fields.specs.Boxes.{root_box}
use Rattle.rules.specs.Good.{list_verdict}
use Rattle.trees.specs.Words.{node_words, most_nodes, most_pool, node_count}
use Rattle.tree_check.specs.Whole.{most_cuts}
use Rattle.tree_check.specs.PartCheck.{so_far_verdict}
use Rattle.built.specs.Boxes.{boxes_of}
use Rattle.built.specs.Trees.{Tree}
use Rattle.built.specs.Layout.{laid}
use Rattle.built.specs.GrownOn.{tree_on}
use Rattle.built.specs.Stops.{up_to}
use Rattle.built.specs.BuiltTree.{built_tree, tree_fits}
use Rattle.built.specs.FirstUnfit.{FirstUnfit}
use Rattle.built.proofs.StopLies.{stop_lies}
use Rattle.built.proofs.Covering.{Covers, built_covers, covers_full, covers_up_to}
use Rattle.built.proofs.FirstUnfit.{fits_refused_iff}
use Rattle.built.proofs.PartTaken.{part_covers}
use Rattle.builder.specs.Build.{at_least_one, StepBuilt, SomeBuilt, OnBuilt}
use Rattle.builder.proofs.StepCalls.{step_refused}

module _ (rs nodes pool : List ℕ) (why : Refusal) where
  -- some node of a tree below e does not fit, and the first that does not has this refusal
  abbrev UnfitBelow : ℕ → Tree → Type 0
  UnfitBelow e t =
      FirstUnfit (laid (up_to e t 0) 0 0) (min (length nodes) (most_nodes * node_words)) (min (length pool) most_pool) why

  -- a step of a tree that covers the rules says 4 exactly so, where nothing is refused before
  step_short_iff :
      (v : Verdict) (e : ℕ) (t : Tree) → Covers false rs most_cuts root_box t → v ≡ verdict.Fine →
      StepBuilt v e t nodes pool (Err why) nodes pool ↔ UnfitBelow e t
  step_short_iff v e t c fine = (
    λ w. unfit.0 (sym (then_fine fits fine) ∙ (step_refused v e t w).0),
    λ u.
        let q = then_fine fits fine ∙ unfit.1 u in
        (writes_refused {why = why} q refl refl, writes_refused {why = why} q refl refl),
  )
    where
      fits : Verdict
      fits = tree_fits (up_to e t 0) (length nodes) (length pool)

      unfit : (fits ≡ verdict.Refused why) ↔ UnfitBelow e t
      unfit = fits_refused_iff rs (up_to e t 0) (covers_up_to e c 0) (stop_lies e (covers_full c)) _ _ why

  -- the first step of a good list says 4 exactly for the first node before its stop that does not fit
  pub some_short_iff :
      (most : ℕ) → list_verdict rs ≡ verdict.Fine →
      SomeBuilt rs most nodes pool (Err why) nodes pool ↔ UnfitBelow (at_least_one most) (built_tree rs)
  some_short_iff most fine =
      step_short_iff (list_verdict rs) (at_least_one most) (built_tree rs) (built_covers rs) fine

  -- and so does a step on from a part that is taken
  pub part_short_iff :
      (n : ℕ) (part kept : List ℕ) (most : ℕ) → so_far_verdict rs n part kept ≡ verdict.Fine →
      OnBuilt rs n part kept most nodes pool (Err why) nodes pool ↔
      UnfitBelow (node_count part + at_least_one most) (tree_on (boxes_of rs) part kept)
  part_short_iff n part kept most fine =
      step_short_iff (so_far_verdict rs n part kept) (node_count part + at_least_one most) (tree_on (boxes_of rs) part kept)
      (part_covers rs n part kept fine) fine
