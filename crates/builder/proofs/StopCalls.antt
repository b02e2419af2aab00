-- However often a build is stopped: a stop is the one that is defined, going on from it is the later stop or the whole,
-- and what is said in the end is what a build that was never stopped says.
use Rattle.std.specs.Prelude.{Err, Result}
use Rattle.builder.specs.declared.step.Step.{Step}
use Rattle.builder.specs.Said.{BuiltTree, Stopped, Whole}
use Prim.Native.Nat.{ℕ, ◌+◌, ◌*◌, ◌<◌}
use native.Mathlib.Nat.{le-max_right}
use native.Mathlib.Omega.{arith}
use mathlib.Core.Path.{◌≡◌, refl, sym, ◌∙◌}
use mathlib.Core.Logic.{◌⊎◌, inl, inr}
use mathlib.Core.List.{List}
use lib.ListN.{length, take}
use Rattle.refusals.specs.declared.Refusal.{Refusal}
use Rattle.refusals.specs.Verdict.{Verdict}
use Rattle.refusals.specs.Verdict as verdict
use Rattle.refusals.specs.Order.{◌then◌}
use Rattle.refusals.proofs.Order.{then_fine, then_refused, then_cases, refused_not_fine}
use Rattle.refusals.proofs.Promises.{writes_fine, writes_refused}
use Rattle.rules.specs.Words.{rule_count}
use Rattle.rules.specs.Good.{list_verdict}
use Rattle.trees.specs.Words.{node_words, node_count}
use Rattle.tree_check.specs.PartCheck.{so_far_verdict}
use Rattle.built.specs.Stops.{up_to}
use Rattle.built.specs.BuiltTree.{built_tree, tree_fits, build_verdict}
use Rattle.built.specs.StopOf.{StopOf}
use Rattle.built.proofs.FullTrees.{full_some}
use Rattle.built.proofs.Stopping.{up_to_some}
use Rattle.built.proofs.LateStops.{early_refused}
use Rattle.built.proofs.Covering.{built_covers, covers_full}
use Rattle.built.proofs.Accepting.{fit_sizes}
use Rattle.built.proofs.StopLaws.{stop_nodes_lem, stop_pool_lem}
use Rattle.built.proofs.FromStop.{stop_count, stop_fine, stop_on}
use Rattle.builder.specs.Build.{TreeBuilt, at_least_one, StepBuilt, SomeBuilt, OnBuilt}
use Rattle.builder.proofs.StepCalls.{stands_front, step_whole, step_stopped, step_refused}

-- a step adds a node
pub at_least_one_lem : (most : ℕ) → 0 < at_least_one most
at_least_one_lem most = omega (arith, le-max_right most 1)

module _ (rs : List ℕ) {nodes pool nodes' pool' : List ℕ} where
  -- ---- a step of the list's tree, what is judged before it being as for the list

  module _ (v : Verdict) (e : ℕ) (some : 0 < e) (alike : v ≡ verdict.Fine → list_verdict rs ≡ verdict.Fine) where
    -- a whole tree is what the build gives
    whole_built :
        {n p : ℕ} → StepBuilt v e (built_tree rs) nodes pool (Whole n p) nodes' pool' →
        TreeBuilt rs nodes pool (BuiltTree n p) nodes' pool'
    unfolding build_verdict
    whole_built w =
        let u = step_whole v e (built_tree rs) w in
        let s = u.1 in
        let f = then_fine (tree_fits (built_tree rs) (length nodes) (length pool)) (alike u.0) ∙ s.fits in
        (writes_fine f (rw (s.count, s.total)) s.nodes_are, writes_fine f (rw (s.count, s.total)) s.pool_is)

    -- a stop is the one that is defined
    stop_made :
        {k p : ℕ} → StepBuilt v e (built_tree rs) nodes pool (Stopped k p) nodes' pool' →
        (k ≡ e) × StopOf rs k (take (k * node_words) nodes') (take p pool')
    stop_made {k} {p} w =
        let u = step_stopped v e (built_tree rs) w in
        let short = u.3 in
        let at = u.2 in
        let front = stands_front u.1 in
        let begun = up_to_some e (built_tree rs) 0 some (full_some (covers_full (built_covers rs))) in
        let sizes = fit_sizes (up_to e (built_tree rs) 0) (length nodes) (length pool) begun u.1.fits in (
          at,
          record {
            list = alike u.0;
            some = omega arith;
            short = omega arith;
            nodes_are = front.0 ∙ rw at (stop_nodes_lem rs (built_tree rs) (built_covers rs) e (omega arith));
            pool_is = front.1 ∙ rw at (stop_pool_lem rs (built_tree rs) (built_covers rs) e (omega arith));
            sizes = rw (front.0, front.1) sizes;
          },
        )

    -- a refusal is the build's
    refusal_built :
        {why : Refusal} → (v ≡ verdict.Refused why → list_verdict rs ≡ verdict.Refused why) →
        StepBuilt v e (built_tree rs) nodes pool (Err why) nodes' pool' →
        TreeBuilt rs nodes pool (Err why) nodes' pool'
    unfolding build_verdict
    refusal_built {why} same w =
        let u = step_refused v e (built_tree rs) w in
        let q = go (then_cases v (tree_fits (up_to e (built_tree rs) 0) (length nodes) (length pool)) u.0) in
        (writes_refused {why = why} q refl u.1, writes_refused {why = why} q refl u.2)
      where
        whole : Verdict
        whole = tree_fits (built_tree rs) (length nodes) (length pool)

        go :
            (v ≡ verdict.Refused why) ⊎
            ((v ≡ verdict.Fine) ×
            (tree_fits (up_to e (built_tree rs) 0) (length nodes) (length pool) ≡ verdict.Refused why)) →
            (list_verdict rs then whole) ≡ verdict.Refused why
        go (inl h) = then_refused whole (same h)
        go (inr h) = then_fine whole (alike h.0) ∙ early_refused _ _ e (built_tree rs) 0 0 h.1

  -- ---- the first step

  module _ (most : ℕ) where
    -- so many nodes are the whole tree, as the build gives it
    pub some_whole :
        {n p : ℕ} → SomeBuilt rs most nodes pool (Whole n p) nodes' pool' →
        TreeBuilt rs nodes pool (BuiltTree n p) nodes' pool'
    some_whole w = whole_built (list_verdict rs) (at_least_one most) (at_least_one_lem most) (λ q. q) w

    -- or its stop after so many
    pub some_stopped :
        {k p : ℕ} → SomeBuilt rs most nodes pool (Stopped k p) nodes' pool' →
        (k ≡ at_least_one most) × StopOf rs k (take (k * node_words) nodes') (take p pool')
    some_stopped w = stop_made (list_verdict rs) (at_least_one most) (at_least_one_lem most) (λ q. q) w

    -- or refused as the build is
    pub some_refused :
        {why : Refusal} → SomeBuilt rs most nodes pool (Err why) nodes' pool' →
        TreeBuilt rs nodes pool (Err why) nodes' pool'
    some_refused w = refusal_built (list_verdict rs) (at_least_one most) (at_least_one_lem most) (λ q. q) (λ q. q) w

  -- ---- a step on from a stop

  module _ (j : ℕ) (part kept : List ℕ) (s : StopOf rs j part kept) (most : ℕ) where
    on_tree :
        {r : Result Step Refusal} → OnBuilt rs (rule_count rs) part kept most nodes pool r nodes' pool' →
        StepBuilt (so_far_verdict rs (rule_count rs) part kept) (node_count part + at_least_one most) (built_tree rs)
        nodes pool r nodes' pool'
    on_tree w = rw (stop_on rs j part kept s) at w

    -- going on is the whole tree, as the build gives it
    pub on_whole :
        {n p : ℕ} → OnBuilt rs (rule_count rs) part kept most nodes pool (Whole n p) nodes' pool' →
        TreeBuilt rs nodes pool (BuiltTree n p) nodes' pool'
    on_whole w = whole_built _ _ (omega (arith, at_least_one_lem most)) (λ q. s.list) (on_tree w)

    -- or the later stop
    pub on_stopped :
        {k p : ℕ} → OnBuilt rs (rule_count rs) part kept most nodes pool (Stopped k p) nodes' pool' →
        (k ≡ j + at_least_one most) × StopOf rs k (take (k * node_words) nodes') (take p pool')
    on_stopped w =
        let u = stop_made _ _ (omega (arith, at_least_one_lem most)) (λ q. s.list) (on_tree w) in
        let count = stop_count rs j part kept s in
        (u.0 ∙ rw count, u.1)

    -- or refused as the build is
    pub on_refused :
        {why : Refusal} → OnBuilt rs (rule_count rs) part kept most nodes pool (Err why) nodes' pool' →
        TreeBuilt rs nodes pool (Err why) nodes' pool'
    on_refused w =
        refusal_built _ _ (omega (arith, at_least_one_lem most)) (λ q. s.list)
        (λ q. refused_not_fine (sym q ∙ stop_fine rs j part kept s)) (on_tree w)
