-- Trees that are well formed so far: the first nodes of a tree whose compile was stopped. Definitions only.
--   child_now nodes m              the right child of a cut whose left part ends at m: m; or 0 where no node m is there
--   SoFar nodes pool k b i e       the nodes from i up to e are one part so far in preorder: i's part, for box b, with
--                                  at most k cuts above any of its leaves
--   FormedSoFar n nodes pool       spelt for n rules, and the root's part so far ends at the last node
--   ProperSoFar rs n nodes pool    the list is good, the sizes hold, n is its number of rules, and the tree is well
--                                  formed so far
use Rattle.std.specs.Prelude.{ℕ, suc, ◌+◌, ◌≤◌, ◌<◌, true, cond, ◌≡◌, List, ltb}
use Rattle.facts.specs.Lists.{rises}
use Rattle.refusals.specs.Verdict.{Fine}
use Rattle.fields.specs.Boxes.{low_of, high_of, root_box}
use Rattle.fields.specs.Cuts.{left_of, right_of}
use Rattle.rules.specs.Words.{rule_count}
use Rattle.rules.specs.Good.{list_verdict}
use Rattle.trees.specs.Words.{leaf_mark, node_count, field_of, value_of, child_of, entries, size_verdict}
use Rattle.trees.specs.Spelt.{Spelt}
use Rattle.tree_check.specs.Whole.{most_cuts}

abbrev pub child_now : List ℕ → ℕ → ℕ
child_now nodes m = cond (ltb m (node_count nodes)) m 0

-- where no node i is there the part is not begun, and ends at i; a leaf and a cut are as in `Whole`, but a cut whose
-- right part is not begun has the right child 0
pub data SoFar (nodes pool : List ℕ) : ℕ → List (List ℕ) → ℕ → ℕ → Type 0 where
  none : {k : ℕ} {b : List (List ℕ)} {i : ℕ} → node_count nodes ≤ i → SoFar nodes pool k b i i
  leaf :
      {k : ℕ} {b : List (List ℕ)} {i : ℕ} → i < node_count nodes → field_of nodes i ≡ leaf_mark →
      rises 0 (entries nodes pool i) ≡ true → SoFar nodes pool k b i (i + 1)
  cut :
      {k : ℕ} {b : List (List ℕ)} {i m e : ℕ} → i < node_count nodes → field_of nodes i < leaf_mark →
      low_of b (field_of nodes i) ≤ value_of nodes i → value_of nodes i < high_of b (field_of nodes i) →
      SoFar nodes pool k (left_of b (field_of nodes i) (value_of nodes i)) (i + 1) m → child_of nodes i ≡ child_now nodes m →
      SoFar nodes pool k (right_of b (field_of nodes i) (value_of nodes i)) m e → SoFar nodes pool (suc k) b i e

pub record FormedSoFar (n : ℕ) (nodes pool : List ℕ) : Type 0 where
  pub spelt : Spelt n nodes pool
  pub preorder : SoFar nodes pool most_cuts root_box 0 (node_count nodes)

pub record ProperSoFar (rs : List ℕ) (n : ℕ) (nodes pool : List ℕ) : Type 0 where
  pub list : list_verdict rs ≡ Fine
  pub sizes : size_verdict nodes pool ≡ Fine
  pub count : n ≡ rule_count rs
  pub formed : FormedSoFar (rule_count rs) nodes pool
