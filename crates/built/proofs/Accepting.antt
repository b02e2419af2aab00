-- A whole tree that covers the rules, and fits in some room, is accepted by the tree check, and so it may serve.
use Rattle.tree_check.specs.Said.{Complete}
use Prim.Native.Nat.{ℕ, ◌*◌, ◌≤◌, ◌<◌, min}
use native.Mathlib.Nat.{min-le_right, zero-add}
use native.Mathlib.Omega.{arith}
use mathlib.Core.Bool.{false}
use mathlib.Core.Path.{◌≡◌}
use mathlib.Core.Logic.{◌↔◌}
use mathlib.Core.List.{List}
use lib.ListN.{length}
use Rattle.refusals.specs.Verdict.{Fine}
use Rattle.fields.specs.Boxes.{root_box}
use Rattle.rules.specs.Good.{list_verdict}
use Rattle.trees.specs.Words.{node_words, most_nodes, most_pool, node_count, size_verdict}
use Rattle.trees.proofs.Sizes.{sizes_fine_iff}
use Rattle.tree_check.specs.Whole.{most_cuts}
use Rattle.tree_check.specs.TreeCheck.{root_part, check_verdict}
use Rattle.tree_check.specs.Serves.{Serves}
use Rattle.tree_check.proofs.Stages.{Reached, lack_decides}
use Rattle.tree_check.proofs.Accepts.{accepts_iff_serves}
use Rattle.built.specs.Trees.{Tree}
use Rattle.built.specs.Layout.{size, pooled, laid}
use Rattle.built.specs.BuiltTree.{tree_fits}
use Rattle.built.proofs.Laying.{length_laid, count_laid}
use Rattle.built.proofs.Fitting.{fits_fine_iff}
use Rattle.built.proofs.Lying.{Lies, laid_lies}
use Rattle.built.proofs.FullTrees.{full_some, full_till}
use Rattle.built.proofs.Covering.{Covers, covers_full}
use Rattle.built.proofs.Passing.{PartPasses, covers_passes}
use Rattle.built.proofs.BuiltSpelt.{laid_spelt}

module _ (t : Tree) (a b : ℕ) where
  -- a tree fits exactly where it has no more nodes and entries than there is room for, and than a tree may have
  pub tree_fits_iff :
      (tree_fits t a b ≡ Fine) ↔
      ((size t * node_words ≤ min a (most_nodes * node_words)) × (length (pooled t) ≤ min b most_pool))
  tree_fits_iff =
      let u = fits_fine_iff t 0 0 (min a (most_nodes * node_words)) (min b most_pool) (omega arith) (omega arith) in (
        λ e. let r = u.0 e in (simp zero-add at r.0, simp zero-add at r.1),
        λ h. u.1 (simp zero-add h.0, simp zero-add h.1),
      )

  -- the sizes of a tree that has nodes and fits are those of a tree
  pub fit_sizes : 0 < size t → tree_fits t a b ≡ Fine → size_verdict (laid t 0 0) (pooled t) ≡ Fine
  fit_sizes some e =
      let r = tree_fits_iff.0 e in
      let n = length_laid t 0 0 in
      (sizes_fine_iff (laid t 0 0) (pooled t)).1
      (record {
        some_node = omega arith;
        whole = omega arith;
        few_nodes = omega (arith, r.0, min-le_right a (most_nodes * node_words));
        short_pool = omega (arith, r.1, min-le_right b most_pool);
      })

module _ (rs : List ℕ) (t : Tree) (c : Covers false rs most_cuts root_box t) where
  -- the tree lies in its words
  lies : Lies (laid t 0 0) (pooled t) t 0 0
  lies = laid_lies t (full_till (covers_full c) (size t) 0)

  -- the root's part passes, and lacks nothing
  passes : PartPasses false rs (laid t 0 0) (pooled t) most_cuts root_box 0 (node_count (laid t 0 0))
  passes =
      rw (count_laid t 0 0)
      (rw zero-add at (covers_passes false rs (laid t 0 0) (pooled t) c lies))

  module _ (a b : ℕ) (list : list_verdict rs ≡ Fine) (e : tree_fits t a b ≡ Fine) where
    reached : Reached rs (laid t 0 0) (pooled t) passes.cuts passes.longest Complete
    unfolding root_part
    reached =
        record {
          list = list;
          sizes = fit_sizes t a b (full_some (covers_full c)) e;
          spelt = laid_spelt rs t c lies;
          root = passes.says;
        }

    -- the tree check accepts it for a good list
    pub covers_accepted : check_verdict rs (laid t 0 0) (pooled t) ≡ Fine
    covers_accepted = lack_decides reached

    -- it may serve the list
    pub covers_serves : Serves rs (laid t 0 0) (pooled t)
    covers_serves = (accepts_iff_serves rs (laid t 0 0) (pooled t)).0 covers_accepted
