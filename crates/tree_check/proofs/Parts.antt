-- The preorder check of a part, by what stands at its first node: no node, a leaf, a cut too deep, and a cut by its
-- value. For whole trees and for trees so far, and then for whole trees.
use Rattle.tree_check.specs.Said.{Good}
use Rattle.std.specs.Prelude.{Err}
use Prim.Native.Nat.{ℕ, zero, suc, ◌+◌, ◌≤◌, ◌<◌}
use mathlib.Core.Bool.{Bool, true, false}
use mathlib.Core.Path.{◌≡◌, ◌∙◌}
use mathlib.Core.List.{List}
use lib.ListN.{length}
use borrow.Author.Tests.{lt-ltb, le-ltb}
use Rattle.facts.specs.Lists.{rises}
use Rattle.refusals.specs.declared.Refusal.TheVariants.{NodeWrong, LeafWrong}
use Rattle.fields.specs.Cuts.{divides, left_of, right_of}
use Rattle.trees.specs.Words.{leaf_mark, node_count, field_of, value_of, child_of, entries}
use Rattle.tree_check.specs.Preorder.{lack_of, leaf_part, no_part, after_left, cut_part, node_part}
use Rattle.tree_check.specs.Preorder.{preorder_of, part_of}

module _ (rs nodes pool : List ℕ) (b : List (List ℕ)) (i : ℕ) where
  -- a leaf whose entries rise is a part of one node
  pub leaf_rising :
      rises 0 (entries nodes pool i) ≡ true →
      leaf_part rs (entries nodes pool i) b i ≡
      Good (i + 1) 0 (length (entries nodes pool i)) (lack_of rs (entries nodes pool i) b i)
  unfolding leaf_part
  leaf_rising e = rw e

  -- a leaf whose entries do not rise is refused
  pub leaf_not_rising :
      rises 0 (entries nodes pool i) ≡ false → leaf_part rs (entries nodes pool i) b i ≡ Err (LeafWrong i)
  unfolding leaf_part
  leaf_not_rising e = rw e

module _ (far : Bool) (rs nodes pool : List ℕ) (b : List (List ℕ)) (i : ℕ) where
  -- where no node is there the part is not begun, or is refused
  pub preorder_missing : (k : ℕ) → node_count nodes ≤ i → preorder_of far k rs nodes pool b i ≡ no_part far i
  unfolding preorder_of node_part
  preorder_missing zero l = rw (le-ltb i (node_count nodes) l)
  preorder_missing (suc k) l = rw (le-ltb i (node_count nodes) l)

  module _ (there : i < node_count nodes) where
    -- a leaf is checked as a leaf, however many cuts are allowed
    pub preorder_leaf :
        (k : ℕ) → leaf_mark ≤ field_of nodes i →
        preorder_of far k rs nodes pool b i ≡ leaf_part rs (entries nodes pool i) b i
    unfolding preorder_of node_part
    preorder_leaf zero f = rw (lt-ltb i (node_count nodes) there, le-ltb (field_of nodes i) leaf_mark f)
    preorder_leaf (suc k) f = rw (lt-ltb i (node_count nodes) there, le-ltb (field_of nodes i) leaf_mark f)

    module _ (field : field_of nodes i < leaf_mark) where
      -- a cut where no more are allowed is refused
      pub preorder_deep : preorder_of far 0 rs nodes pool b i ≡ Err (NodeWrong i)
      unfolding preorder_of node_part
      preorder_deep = rw (lt-ltb i (node_count nodes) there, lt-ltb (field_of nodes i) leaf_mark field)

      -- a cut where more are allowed is checked as a cut
      pub preorder_cut :
          (k : ℕ) → preorder_of far (suc k) rs nodes pool b i ≡ cut_part far nodes b i (preorder_of far k rs nodes pool)
      unfolding preorder_of node_part
      preorder_cut k = rw (lt-ltb i (node_count nodes) there, lt-ltb (field_of nodes i) leaf_mark field)

      -- a cut whose value does not divide the box is refused
      pub preorder_undivided :
          (k : ℕ) → divides b (field_of nodes i) (value_of nodes i) ≡ false →
          preorder_of far (suc k) rs nodes pool b i ≡ Err (NodeWrong i)
      unfolding cut_part
      preorder_undivided k d = preorder_cut k ∙ rw d

      -- a cut whose value divides the box is as its left part, its right child and its right part are
      pub preorder_divided :
          (k : ℕ) → divides b (field_of nodes i) (value_of nodes i) ≡ true →
          preorder_of far (suc k) rs nodes pool b i ≡
          after_left far (node_count nodes) i (child_of nodes i)
          (preorder_of far k rs nodes pool (left_of b (field_of nodes i) (value_of nodes i)) (i + 1))
          (λ next. preorder_of far k rs nodes pool (right_of b (field_of nodes i) (value_of nodes i)) next)
      unfolding cut_part
      preorder_divided k d = preorder_cut k ∙ rw d

-- ---- in a whole tree

module _ (rs nodes pool : List ℕ) (b : List (List ℕ)) (i : ℕ) (there : i < node_count nodes) where
  -- a leaf is checked as a leaf
  pub part_leaf :
      (k : ℕ) → leaf_mark ≤ field_of nodes i → part_of k rs nodes pool b i ≡ leaf_part rs (entries nodes pool i) b i
  part_leaf k f = preorder_leaf false rs nodes pool b i there k f

  -- a cut whose value divides the box is as its left part, its right child and its right part are
  pub part_divided :
      field_of nodes i < leaf_mark → (k : ℕ) → divides b (field_of nodes i) (value_of nodes i) ≡ true →
      part_of (suc k) rs nodes pool b i ≡
      after_left false (node_count nodes) i (child_of nodes i)
      (part_of k rs nodes pool (left_of b (field_of nodes i) (value_of nodes i)) (i + 1))
      (λ next. part_of k rs nodes pool (right_of b (field_of nodes i) (value_of nodes i)) next)
  part_divided field k d = preorder_divided false rs nodes pool b i there field k d
