-- The part check: when a compile may go on from a part, the first nodes of a tree whose compile was stopped. For any
-- list, number of rules, nodes and pool. Statements only.
use Rattle.tree_check.specs.declared.preorder.Lack.{Lack}
use Rattle.tree_check.specs.Said.{Good}
use Rattle.std.specs.Prelude.{ℕ, ◌≤◌, ◌<◌, true, ◌≡◌, ◌↔◌, ◌⊎◌, List, Option}
use Rattle.refusals.specs.declared.Refusal.TheVariants.{NodeWrong, LeafWrong, LeafLacksRule}
use Rattle.refusals.specs.Verdict.{Fine, Refused}
use Rattle.rules.specs.Words.{rule_count}
use Rattle.rules.specs.Good.{list_verdict}
use Rattle.trees.specs.Words.{leaf_mark, node_count, field_of, size_verdict}
use Rattle.tree_check.specs.SoFar.{SoFar, FormedSoFar}
use Rattle.tree_check.specs.MayGoOn.{MayGoOn, LacksSoFar}
use Rattle.tree_check.specs.Preorder.{preorder_of}
use Rattle.tree_check.specs.TreeCheck.{check_verdict}
use Rattle.tree_check.specs.PartCheck.{so_far_verdict}

pub record PartCheck : Type 0 where
  -- where each node's first word is a field or marks a leaf, the walk accepts a part so far exactly where it is well
  -- formed so far
  pub walk :
      (rs ns es : List ℕ) (k : ℕ) (b : List (List ℕ)) (i e : ℕ) →
      ((j : ℕ) → j < node_count ns → field_of ns j ≤ leaf_mark) →
      ((c : ℕ) × (l : ℕ) × (y : Option Lack) × (preorder_of true k rs ns es b i ≡ Good e c l y)) ↔ SoFar ns es k b i e
  -- the part check is fine exactly where the list is good, the sizes hold, n is the list's number of rules, the tree is
  -- well formed so far, and each leaf so far lists every rule whose box meets its own
  pub fine : (rs : List ℕ) (n : ℕ) (ns es : List ℕ) → (so_far_verdict rs n ns es ≡ Fine) ↔ MayGoOn rs n ns es
  -- it says 8 with leaf i and rule r exactly where all but the last holds, i is the lowest leaf so far that lacks a
  -- rule, and r the lowest rule that it lacks
  pub eight_at :
      (rs : List ℕ) (n : ℕ) (ns es : List ℕ) (i r : ℕ) →
      (so_far_verdict rs n ns es ≡ Refused (LeafLacksRule i r)) ↔ LacksSoFar rs n ns es i r
  -- with a good list and sizes that hold, another number of rules is refused with 6 at node 0
  pub other_count :
      (rs : List ℕ) (n : ℕ) (ns es : List ℕ) → list_verdict rs ≡ Fine → size_verdict ns es ≡ Fine →
      (n ≡ rule_count rs → ⊥) → so_far_verdict rs n ns es ≡ Refused (NodeWrong 0)
  -- with the list's number of rules, it says 6 or 7 exactly where the tree is not well formed so far
  pub malformed :
      (rs : List ℕ) (n : ℕ) (ns es : List ℕ) → list_verdict rs ≡ Fine → size_verdict ns es ≡ Fine → n ≡ rule_count rs →
      ((i : ℕ) ×
      ((so_far_verdict rs n ns es ≡ Refused (NodeWrong i)) ⊎ (so_far_verdict rs n ns es ≡ Refused (LeafWrong i)))) ↔
      (FormedSoFar (rule_count rs) ns es → ⊥)
  -- a tree that the tree check accepts is taken as a part
  pub accepted_tree :
      (rs ns es : List ℕ) → check_verdict rs ns es ≡ Fine → so_far_verdict rs (rule_count rs) ns es ≡ Fine
