-- What is grown from a part that is taken: it covers the rules, and it begins with the part's own words.
use Rattle.tree_check.specs.Said.{Complete}
use Prim.Native.Nat.{ℕ, ◌+◌, ◌≤◌}
use native.Mathlib.Nat.{zero-add}
use native.Mathlib.Omega.{arith}
use mathlib.Core.Bool.{false}
use mathlib.Core.Path.{◌≡◌, refl, sym}
use mathlib.Core.List.{List}
use lib.ListN.{length}
use Rattle.refusals.specs.Verdict.{Fine}
use Rattle.fields.specs.Words.{field_count}
use Rattle.fields.specs.Boxes.{root_box}
use Rattle.trees.specs.Words.{node_count}
use Rattle.trees.specs.Spelt.{counts_below}
use Rattle.trees.proofs.Sizes.{sizes_fine_iff}
use Rattle.trees.proofs.LeafSpelling.{counts_first}
use Rattle.tree_check.specs.Whole.{most_cuts}
use Rattle.tree_check.specs.PartCheck.{so_far_verdict}
use Rattle.tree_check.proofs.PartStages.{Taken, part_taken, taken_built}
use Rattle.built.specs.Boxes.{boxes_of}
use Rattle.built.specs.Trees.{Tree}
use Rattle.built.specs.Layout.{size, pooled, laid}
use Rattle.built.specs.GrownOn.{tree_on}
use Rattle.built.specs.Stops.{up_to}
use Rattle.built.proofs.Lying.{Lies}
use Rattle.built.proofs.FullTrees.{on_full}
use Rattle.built.proofs.Stopping.{up_to_size}
use Rattle.built.proofs.StopLies.{stop_lies}
use Rattle.built.proofs.SameWords.{own_words}
use Rattle.built.proofs.Covering.{Covers, covers_up_to}
use Rattle.built.proofs.Counting.{counts_pass}
use Rattle.built.proofs.PartCovers.{PartGrows, built_grows}
use Rattle.built.proofs.PartKept.{built_kept}

module _ (rs : List ℕ) (n : ℕ) (part kept : List ℕ) (fine : so_far_verdict rs n part kept ≡ Fine) where
  -- the tree that is grown from it
  abbrev whole : Tree
  whole = tree_on (boxes_of rs) part kept

  taken : (c : ℕ) × (l : ℕ) × Taken rs n part kept c l Complete
  taken = part_taken rs n part kept fine

  part_grows : PartGrows rs part kept most_cuts root_box 0 (node_count part)
  part_grows = let t = taken.2 in built_grows rs part kept t.spelt (taken_built t) refl

  -- the tree that is grown from a part that is taken covers the rules
  pub part_covers : Covers false rs most_cuts root_box (tree_on (boxes_of rs) part kept)
  part_covers = part_grows.covers

  -- it has no fewer nodes than the part
  pub part_within : node_count part ≤ size (tree_on (boxes_of rs) part kept)
  part_within = omega (arith, part_grows.goes_on (omega arith))

  part_lies : Lies part kept (up_to (node_count part) whole 0) 0 0
  part_lies =
      let t = taken.2 in
      built_kept rs part kept t.spelt (taken_built t) refl (omega arith) 0 (sym (counts_first part))

  -- its first nodes and their entries are the part's own words
  pub part_kept :
      (laid (up_to (node_count part) (tree_on (boxes_of rs) part kept) 0) 0 0 ≡ part) ×
      (pooled (up_to (node_count part) (tree_on (boxes_of rs) part kept) 0) ≡ kept)
  part_kept =
      let t = taken.2 in
      let own = up_to (node_count part) whole 0 in
      let nodes : size own ≡ node_count part =
      omega (arith, up_to_size (node_count part) whole 0 (omega arith) (omega (arith, part_within))) in
      let many : counts_below part (0 + size own) ≡ 0 + length (pooled own) =
      counts_pass rs part kept (covers_up_to (node_count part) part_covers 0) part_lies (sym (counts_first part)) in
      let same : counts_below part (0 + size own) ≡ counts_below part (node_count part) = rw (zero-add, nodes) in
      own_words own part_lies
      (stop_lies (node_count part) (on_full most_cuts field_count (boxes_of rs) part kept root_box 0))
      (omega (arith, nodes, ((sizes_fine_iff part kept).0 t.sizes).whole))
      (omega (arith, many, same, t.spelt.total))
