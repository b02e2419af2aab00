-- Twins: two rules of a list that have equal words, whatever their actions. Definitions only.
--   same_words rs q r    rules q and r have equal words, their actions aside
--   earlier_twin rs r   the lowest rule before r that has r's words; r where there is none
--   twin_verdict rs r   11 at rule r, with that earlier rule, where there is one
--   twins_verdict rs    11 at the lowest rule that has a twin before it
--   Alike rs q r        rule r is a rule of the list, and q an earlier one with its words
--   NoTwins rs          no two rules of the list are alike
--   FirstTwins rs r q   r is the lowest rule with the words of an earlier one, and q is the only earlier one that has
--                       them
use Rattle.std.specs.Prelude.{ℕ, ◌<◌, Bool, true, ◌≡◌, List, leb, eqb}
use Rattle.facts.specs.Below.{all_below, lowest}
use Rattle.refusals.specs.declared.Refusal.TheVariants.{RuleHasTwin}
use Rattle.refusals.specs.Verdict.{Verdict}
use Rattle.refusals.specs.Order.{refuse_unless, in_turn}
use Rattle.rules.specs.Words.{match_words, rule_count, word_of}

unfoldable pub same_words : List ℕ → ℕ → ℕ → Bool
same_words rs q r = all_below match_words (λ j. eqb (word_of rs q j) (word_of rs r j))

unfoldable pub earlier_twin : List ℕ → ℕ → ℕ
earlier_twin rs r = lowest r 0 (λ q. same_words rs q r)

unfoldable pub twin_verdict : List ℕ → ℕ → Verdict
twin_verdict rs r = refuse_unless (leb r (earlier_twin rs r)) (RuleHasTwin r (earlier_twin rs r))

unfoldable pub twins_verdict : List ℕ → Verdict
twins_verdict rs = in_turn (rule_count rs) 0 (twin_verdict rs)

pub record Alike (rs : List ℕ) (q r : ℕ) : Type 0 where
  pub rule : r < rule_count rs
  pub earlier : q < r
  pub alike : same_words rs q r ≡ true

abbrev pub NoTwins : List ℕ → Type 0
NoTwins rs = (q r : ℕ) → Alike rs q r → ⊥

pub record FirstTwins (rs : List ℕ) (r q : ℕ) : Type 0 where
  pub twins : Alike rs q r
  pub only : (p : ℕ) → Alike rs p r → p ≡ q
  pub none_before : (p t : ℕ) → t < r → Alike rs p t → ⊥
