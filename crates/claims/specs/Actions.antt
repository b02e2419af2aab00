-- Actions: which one a first match says, which are good, and what does not look at them. Statements only.
use Rattle.trees.specs.Answers.{Rule}
use Rattle.std.specs.Prelude.{ℕ, ◌≤◌, ◌<◌, true, ◌↔◌, ◌≡◌, List}
use Rattle.refusals.specs.Verdict.{Fine}
use Rattle.rules.specs.Words.{match_words, rule_count, word_of, action_of, largest_action}
use Rattle.rules.specs.Good.{good, list_verdict_to, list_verdict}
use Rattle.rules.specs.Matching.{matches}
use Rattle.trees.specs.TreeFirst.{TreeFirstSearched}

-- a first match by any tree says the action of the rule that it names, as it stands (by the list or by a scan it does
-- too: `FirstMatch`); a good rule's is at most the largest; rules with the same words match alike, whatever their
-- actions; and a list is fine with small actions exactly where it is fine and its actions are that small
pub record Actions : Type 0 where
  pub by_tree :
      (rs ns es h : List ℕ) (n a v k : ℕ) → TreeFirstSearched rs ns es h (Rule n a v k) →
      a ≡ action_of rs n
  pub largest : (rs : List ℕ) (r : ℕ) → good rs r ≡ true → action_of rs r ≤ largest_action
  pub aside :
      (rs ws : List ℕ) (q r : ℕ) → ((j : ℕ) → j < match_words → word_of rs q j ≡ word_of ws r j) →
      (h : List ℕ) → matches rs h q ≡ matches ws h r
  pub small :
      (most : ℕ) (rs : List ℕ) → most ≤ largest_action →
      (list_verdict_to most rs ≡ Fine) ↔
      ((list_verdict rs ≡ Fine) × ((r : ℕ) → r < rule_count rs → action_of rs r ≤ most))
