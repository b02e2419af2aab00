-- A stop is taken: the words of what is grown before a node, of a tree that covers the rules, may be gone on with.
use Rattle.tree_check.specs.Said.{Complete}
use Prim.Native.Nat.{ℕ}
use native.Mathlib.Nat.{zero-add}
use mathlib.Core.Bool.{true, false}
use mathlib.Core.Path.{◌≡◌, refl}
use mathlib.Core.List.{List}
use Rattle.refusals.specs.Verdict.{Fine}
use Rattle.fields.specs.Boxes.{root_box}
use Rattle.rules.specs.Words.{rule_count}
use Rattle.rules.specs.Good.{list_verdict}
use Rattle.trees.specs.Words.{node_count, size_verdict}
use Rattle.tree_check.specs.Whole.{most_cuts}
use Rattle.tree_check.specs.PartCheck.{so_far_verdict}
use Rattle.tree_check.proofs.PartStages.{Taken, taken_decides}
use Rattle.built.specs.Trees.{Tree}
use Rattle.built.specs.Layout.{pooled, laid}
use Rattle.built.specs.Stops.{up_to}
use Rattle.built.proofs.Laying.{count_laid}
use Rattle.built.proofs.StopLies.{stop_lies}
use Rattle.built.proofs.Covering.{Covers, covers_full, covers_up_to}
use Rattle.built.proofs.Passing.{PartPasses, covers_passes}
use Rattle.built.proofs.BuiltSpelt.{laid_spelt}

module _ (rs : List ℕ) (t : Tree) (c : Covers false rs most_cuts root_box t) (e : ℕ) where
  -- what is grown
  stop : Tree
  stop = up_to e t 0

  passes : PartPasses true rs (laid stop 0 0) (pooled stop) most_cuts root_box 0 (node_count (laid stop 0 0))
  unfolding stop
  passes =
      rw (count_laid stop 0 0)
      (rw zero-add at
      (covers_passes true rs (laid stop 0 0) (pooled stop) (covers_up_to e c 0) (stop_lies e (covers_full c))))

  module _
      (list : list_verdict rs ≡ Fine) (sizes : size_verdict (laid (up_to e t 0) 0 0) (pooled (up_to e t 0)) ≡ Fine) where
    taken : Taken rs (rule_count rs) (laid stop 0 0) (pooled stop) passes.cuts passes.longest Complete
    unfolding stop
    taken =
        record {
          list = list;
          sizes = sizes;
          count = refl;
          spelt = laid_spelt rs stop (covers_up_to e c 0) (stop_lies e (covers_full c));
          root = passes.says;
        }

    -- the part check takes a stop whose sizes hold, for a good list
    pub stop_taken : so_far_verdict rs (rule_count rs) (laid (up_to e t 0) 0 0) (pooled (up_to e t 0)) ≡ Fine
    unfolding stop
    stop_taken = taken_decides taken
