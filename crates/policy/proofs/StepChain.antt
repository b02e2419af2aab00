-- The compiler's steps, file by file: a step on from the text of a step is one step of as many nodes as both; and the
-- last one writes what is written of the list at once.
use Prim.Native.Nat.{ℕ, ◌+◌, ◌*◌, ◌^◌, ◌≤◌, ◌<◌}
use native.Mathlib.Omega.{arith}
use mathlib.Core.Path.{◌≡◌, refl, sym, ◌∙◌}
use mathlib.Core.List.{List}
use mathlib.Core.Option.{some}
use borrow.Author.Tests.{lt-leb, le-leb}
use Rattle.refusals.specs.Verdict.{Fine}
use Rattle.refusals.specs.Order.{◌then◌}
use Rattle.refusals.proofs.Order.{then_fine, then_fine_iff}
use Rattle.rules.specs.Words.{rule_count}
use Rattle.rules.specs.Good.{list_verdict}
use Rattle.trees.specs.Words.{node_words, most_nodes, most_pool}
use Rattle.trees.proofs.Sizes.{sizes_fine_iff}
use Rattle.tree_check.specs.PartCheck.{so_far_verdict}
use Rattle.built.specs.Layout.{size, pooled, laid}
use Rattle.built.specs.Stops.{up_to}
use Rattle.built.specs.BuiltTree.{built_tree, tree_fits, build_verdict}
use Rattle.built.specs.StopOf.{StopOf}
use Rattle.built.proofs.Laying.{length_laid}
use Rattle.built.proofs.Stopping.{up_to_whole}
use Rattle.built.proofs.Covering.{built_covers, covers_up_to}
use Rattle.built.proofs.StopLaws.{stop_nodes_lem, stop_pool_lem}
use Rattle.built.proofs.FromStop.{stop_count, stop_fine, stop_on}
use Rattle.builder.specs.Build.{at_least_one}
use Rattle.text.specs.Words.{part_word}
use Rattle.text.specs.Text.{good}
use Rattle.text.specs.Line.{EachUnder}
use Rattle.tree_file.specs.TreeText.{tree}
use Rattle.tree_file.specs.TreeLines.{Spelling}
use Rattle.tree_file.proofs.RoundTrips.{part_plain, read_of_written}
use Rattle.policy.specs.Files.{part_of}
use Rattle.policy.specs.Compiled.{largest_build, built_text}
use Rattle.policy.specs.Steps.{step_word, step_text, step_verdict}
use Rattle.policy.specs.StepOutput.{part_verdict, text_or, grown_to, next_step}
use Rattle.policy.proofs.BuiltWords.{root_in_root, laid_under}
use Rattle.policy.proofs.StepSize.{step_spelling}

module _ (rs : List ℕ) where
  -- a step that ends with the tree writes what is written of the list at once
  pub last_step : (e : ℕ) → size (built_tree rs) ≤ e → grown_to rs e ≡ text_or (largest_build rs) (built_text rs)
  unfolding step_verdict step_text step_word build_verdict built_text
  last_step e h = rw (le-leb (size (built_tree rs)) e h, up_to_whole e (built_tree rs) 0 (omega arith))

  module _ (k : ℕ) (begun : 0 < k) (short : k < size (built_tree rs))
      (fine : step_verdict (list_verdict rs) k (built_tree rs) ≡ Fine) where
    part : List ℕ
    part = laid (up_to k (built_tree rs) 0) 0 0

    kept : List ℕ
    kept = pooled (up_to k (built_tree rs) 0)

    list : list_verdict rs ≡ Fine
    unfolding step_verdict
    list = ((then_fine_iff (list_verdict rs) _).0 fine).0

    spelling : Spelling (rule_count rs) part kept
    unfolding part kept
    spelling =
        step_spelling rs
        (record { list = λ f. f; covers = λ f. built_covers rs; some = begun }) fine

    -- the words of the part are a stop of the list's tree
    is_stop : StopOf rs k part kept
    unfolding part kept
    is_stop =
        record {
          list = list;
          some = begun;
          short = short;
          nodes_are = stop_nodes_lem rs (built_tree rs) (built_covers rs) k (omega arith);
          pool_is = stop_pool_lem rs (built_tree rs) (built_covers rs) k (omega arith);
          sizes = spelling.sizes;
        }

    under : EachUnder (2 ^ 32) part
    unfolding part kept
    under =
        let s = (sizes_fine_iff part kept).0 spelling.sizes in
        laid_under (covers_up_to k (built_covers rs) 0) root_in_root 0 0
        (omega (arith, s.few_nodes, length_laid (up_to k (built_tree rs) 0) 0 0)) (omega (arith, s.short_pool))

    -- the text of the step is a part's file, and says these words
    says : part_of (some (step_text (rule_count rs) k (built_tree rs))) ≡ good (tree (rule_count rs) part kept)
    unfolding part_of step_text step_word part kept
    says = rw (lt-leb (size (built_tree rs)) k short) (read_of_written part_word part_plain spelling under)

    -- it is taken
    taken : part_verdict rs (good (tree (rule_count rs) part kept)) ≡ Fine
    unfolding part_verdict
    taken = then_fine _ refl ∙ stop_fine rs k part kept is_stop

    -- a step on from that text is one of as many nodes as both
    pub next_step_lem :
        (most : ℕ) →
        next_step rs (part_of (some (step_text (rule_count rs) k (built_tree rs)))) most ≡
        grown_to rs (k + at_least_one most)
    unfolding next_step step_verdict
    next_step_lem most =
        let e = k + at_least_one most in
        let count = stop_count rs k part kept is_stop in
        let on = stop_on rs k part kept is_stop in
        let fits = tree_fits (up_to e (built_tree rs) 0) (most_nodes * node_words) most_pool in
        let before : (so_far_verdict rs (rule_count rs) part kept then fits) ≡ (list_verdict rs then fits) =
        then_fine fits (stop_fine rs k part kept is_stop) ∙ sym (then_fine fits list) in
        rw (says, taken, on, count, before)
