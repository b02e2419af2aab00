-- Well-formed trees. Definitions only.
--   most_cuts                    the most cuts above a leaf
--   Whole nodes pool k b i e     the nodes from i up to e are one part in preorder: i's whole part, for box b, with at
--                                most k cuts above any of its leaves
--   WellFormed n nodes pool      spelt for n rules, and the root's part ends at the last node
--   Proper rs nodes pool         the list is good, the sizes hold, and the tree is well formed
use Rattle.std.specs.Prelude.{ℕ, suc, ◌+◌, ◌≤◌, ◌<◌, true, ◌≡◌, List}
use Rattle.facts.specs.Lists.{rises}
use Rattle.refusals.specs.Verdict.{Fine}
use Rattle.fields.specs.Boxes.{low_of, high_of, root_box}
use Rattle.fields.specs.Cuts.{left_of, right_of}
use Rattle.rules.specs.Words.{rule_count}
use Rattle.rules.specs.Good.{list_verdict}
use Rattle.trees.specs.Words.{leaf_mark, node_count, field_of, value_of, child_of, entries, size_verdict}
use Rattle.trees.specs.Spelt.{Spelt}

abbrev pub most_cuts : ℕ
most_cuts = 63

-- a leaf's entries rise strictly; a cut's value is at least its box's low and below its high, the next node begins its
-- left part, and its right child is the first number after that
pub data Whole (nodes pool : List ℕ) : ℕ → List (List ℕ) → ℕ → ℕ → Type 0 where
  leaf :
      {k : ℕ} {b : List (List ℕ)} {i : ℕ} → i < node_count nodes → field_of nodes i ≡ leaf_mark →
      rises 0 (entries nodes pool i) ≡ true → Whole nodes pool k b i (i + 1)
  cut :
      {k : ℕ} {b : List (List ℕ)} {i m e : ℕ} → i < node_count nodes → field_of nodes i < leaf_mark →
      low_of b (field_of nodes i) ≤ value_of nodes i → value_of nodes i < high_of b (field_of nodes i) →
      Whole nodes pool k (left_of b (field_of nodes i) (value_of nodes i)) (i + 1) m → child_of nodes i ≡ m →
      Whole nodes pool k (right_of b (field_of nodes i) (value_of nodes i)) m e → Whole nodes pool (suc k) b i e

pub record WellFormed (n : ℕ) (nodes pool : List ℕ) : Type 0 where
  pub spelt : Spelt n nodes pool
  pub preorder : Whole nodes pool most_cuts root_box 0 (node_count nodes)

pub record Proper (rs nodes pool : List ℕ) : Type 0 where
  pub list : list_verdict rs ≡ Fine
  pub sizes : size_verdict nodes pool ≡ Fine
  pub formed : WellFormed (rule_count rs) nodes pool
