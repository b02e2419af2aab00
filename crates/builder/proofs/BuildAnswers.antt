-- What the calls answer, from what growing a good list's tree leaves: the build, and a step.
use Rattle.std.specs.Prelude.{Err, Result}
use Rattle.builder.specs.declared.step.Step.{Step}
use Rattle.builder.specs.declared.grow.Grown.{Grown}
use Rattle.builder.specs.declared.build.Size.{Size}
use Prim.Native.Nat.{ℕ, ◌+◌, min}
use native.Mathlib.Nat.{zero-add}
use native.Mathlib.Omega.{arith}
use mathlib.Core.Path.{◌≡◌, refl}
use mathlib.Core.List.{List, []}
use Rattle.refusals.specs.declared.Refusal.{Refusal}
use Rattle.refusals.specs.Verdict.{Verdict}
use Rattle.refusals.specs.Verdict.{Fine, Refused}
use Rattle.fields.specs.Words.{field_count}
use Rattle.fields.specs.Boxes.{root_box}
use Rattle.rules.specs.Words.{rule_count}
use Rattle.rules.specs.Good.{list_verdict}
use Rattle.trees.specs.Words.{node_count}
use Rattle.trees.specs.Spelt.{Spelt}
use Rattle.tree_check.specs.Whole.{most_cuts}
use Rattle.tree_check.specs.PartCheck.{so_far_verdict}
use Rattle.tree_check.proofs.PartStages.{part_taken}
use Rattle.built.specs.Boxes.{boxes_of}
use Rattle.built.specs.Trees.{Tree}
use Rattle.built.specs.GrownOn.{tree_on}
use Rattle.built.specs.Stops.{up_to}
use Rattle.built.specs.BuiltTree.{built_tree, build_verdict}
use Rattle.built.proofs.FullTrees.{Full, grown_full, on_full}
use Rattle.built.proofs.FromStop.{from_nothing}
use Rattle.builder.specs.Build.{paper, TreeBuilt, step_paper, at_least_one, StepBuilt, SomeBuilt, OnBuilt}
use Rattle.builder.specs.BuildSteps.{RootGrown, most_end, end_of}
use Rattle.builder.specs.Answers.{built_of, step_of}
use Rattle.builder.proofs.StepAnswers.{stored, judged_refused, judged_fine, late_grown, end_grown, step_says}

-- ---- a step

module _ {u : Verdict} (e : ℕ) (t : Tree) {nodes pool : List ℕ} where
  -- what is refused before is not built, and both outputs are as found
  pub step_refuses : {why : Refusal} → u ≡ Refused why → StepBuilt u e t nodes pool (Err why) nodes pool
  step_refuses q = judged_refused _ (up_to e t 0) q refl

  -- what is fine before is built as far as the step goes
  pub step_built :
      {nodes' pool' : List ℕ} {g : Result Grown Refusal} {r : Result Step Refusal} → u ≡ Fine → Full t →
      RootGrown (up_to (min e most_end) t 0) nodes pool g nodes' pool' → r ≡ step_of g →
      StepBuilt u e t nodes pool r nodes' pool'
  step_built q full w s =
      judged_fine _ (up_to e t 0) q (stored step_paper step_of (end_grown t e w) s (λ why. refl) (step_says e full))

-- ---- from nothing

module _ (rs : List ℕ) where
  built_full : Full (built_tree rs)
  unfolding built_tree
  built_full = grown_full most_cuts field_count (boxes_of rs) root_box

  -- a list that is refused is not built, and both outputs are as found
  pub list_refuses :
      {nodes pool : List ℕ} {why : Refusal} → list_verdict rs ≡ Refused why →
      TreeBuilt rs nodes pool (Err why) nodes pool
  unfolding build_verdict
  list_refuses q = judged_refused _ (built_tree rs) q refl

  module _ {nodes pool nodes' pool' : List ℕ} {g : Result Grown Refusal} where
    -- of a good list the whole tree is built
    pub list_built :
        {r : Result Size Refusal} → list_verdict rs ≡ Fine →
        RootGrown (up_to most_end (tree_on (boxes_of rs) [] []) 0) nodes pool g nodes' pool' → r ≡ built_of g →
        TreeBuilt rs nodes pool r nodes' pool'
    unfolding build_verdict
    list_built q w s =
        judged_fine _ (built_tree rs) q
        (stored paper built_of (late_grown (built_tree rs) most_end (omega arith) (rw (from_nothing rs) at w)) s
        (λ why. refl) refl)

    -- of a good list so many nodes are built
    pub some_built :
        (most : ℕ) {r : Result Step Refusal} → list_verdict rs ≡ Fine →
        RootGrown (up_to (end_of 0 most) (tree_on (boxes_of rs) [] []) 0) nodes pool g nodes' pool' → r ≡ step_of g →
        SomeBuilt rs most nodes pool r nodes' pool'
    unfolding end_of
    some_built most q w s =
        step_built (at_least_one most) (built_tree rs) q built_full (rw (from_nothing rs, zero-add) at w) s

-- ---- from a part

module _ (rs : List ℕ) (n : ℕ) (part kept : List ℕ) (fine : so_far_verdict rs n part kept ≡ Fine) where
  -- of a part that is taken the list is good, and the part is spelt for it
  pub part_good : (list_verdict rs ≡ Fine) × Spelt (rule_count rs) part kept
  part_good = let t = (part_taken rs n part kept fine).2 in (t.list, t.spelt)

  -- so many nodes more are built of what is grown from it
  pub on_built :
      (most : ℕ) {nodes pool nodes' pool' : List ℕ} {g : Result Grown Refusal} {r : Result Step Refusal} →
      RootGrown (up_to (end_of (node_count part) most) (tree_on (boxes_of rs) part kept) 0) nodes pool g nodes' pool' →
      r ≡ step_of g → OnBuilt rs n part kept most nodes pool r nodes' pool'
  unfolding end_of
  on_built most w s =
      step_built (node_count part + at_least_one most) (tree_on (boxes_of rs) part kept) fine
      (on_full most_cuts field_count (boxes_of rs) part kept root_box 0) w s
