-- Demand 3: when the check accepts a tree, when it says 8, and when 6 or 7; and that its two figures bound every search
-- and every leaf, and are met. For any list, nodes and pool. Statements only.
use Rattle.tree_check.specs.Said.{Accepted}
use Rattle.std.specs.Prelude.{ℕ, ◌≡◌, ◌↔◌, ◌⊎◌, List, Err}
use Rattle.refusals.specs.declared.Refusal.TheVariants.{NodeWrong, LeafWrong, LeafLacksRule}
use Rattle.refusals.specs.Verdict.{Fine}
use Rattle.rules.specs as rules
use Rattle.trees.specs.Words.{size_verdict}
use Rattle.tree_check.specs as check
use Rattle.tree_check.specs.TreeCheck.{TreeChecked}

pub record TreeCheck : Type 0 where
  -- it accepts exactly where the list is good, the sizes hold, the tree is well formed, and every legal header gets
  -- from the tree the list that the line search gives
  pub accepts :
      (rs ns es : List ℕ) → ((c : ℕ) × (l : ℕ) × TreeChecked rs ns es (Accepted c l)) ↔ check.Serves.Serves rs ns es
  -- it says 8 exactly where all but the last holds and some legal header gets a wrong list
  pub eight :
      (rs ns es : List ℕ) →
      ((i : ℕ) × (r : ℕ) × TreeChecked rs ns es (Err (LeafLacksRule i r))) ↔ check.Lacks.Misleads rs ns es
  -- and then it names the lowest leaf that lacks a rule, and the lowest rule that it lacks
  pub eight_at :
      (rs ns es : List ℕ) (i r : ℕ) →
      TreeChecked rs ns es (Err (LeafLacksRule i r)) ↔ check.Lacks.LacksRule rs ns es i r
  -- with a good list and sizes that hold, it says 6 or 7 exactly where the tree is not well formed
  pub malformed :
      (rs ns es : List ℕ) → rules.Good.list_verdict rs ≡ Fine → size_verdict ns es ≡ Fine →
      ((i : ℕ) × (TreeChecked rs ns es (Err (NodeWrong i)) ⊎ TreeChecked rs ns es (Err (LeafWrong i)))) ↔
      (check.Whole.WellFormed (rules.Words.rule_count rs) ns es → ⊥)
  -- by an accepted tree, with the figures c and l, a legal header gets its matches, and the lowest of them; no search
  -- visits more than c + 1 nodes or compares more than l entries; and all-match of some header meets each figure
  pub searches :
      (rs ns es : List ℕ) (c l : ℕ) → TreeChecked rs ns es (Accepted c l) → check.Answering.Answering rs ns es c l
  -- and the figures are the most cuts above a leaf, and the most entries of one
  pub leaves :
      (rs ns es : List ℕ) (c l : ℕ) → TreeChecked rs ns es (Accepted c l) → check.Figures.LeafFigures ns es c l
