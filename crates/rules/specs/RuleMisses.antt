-- Why a rule missed. Definitions only.
--   there_verdict rs n    2 with the number n as place, where there is no rule n
--   miss_verdict rs h n   1, 2, 11, 3, then that 2
--   paper                 an answer of the call, on paper: a field, or the number of fields
--   MissOf rs h n r       r is the lowest field of rule n that disagrees with h, or the number of fields, if there is
--                         such a rule
--   RuleCompared          the promise: the same after 1, 2, 11 and 3
use Rattle.refusals.specs.declared.Refusal.{Refusal}
use Rattle.std.specs.Prelude.{ℕ, List, [], ◌∷◌, Result}
use Rattle.refusals.specs.declared.Refusal.TheVariants.{RuleNotGood}
use Rattle.refusals.specs.Verdict.{Verdict}
use Rattle.refusals.specs.Paper.{Paper, counted}
use Rattle.refusals.specs.Order.{refuse_unless, ◌then◌}
use Rattle.refusals.specs.Promises.{Says}
use Rattle.fields.specs.Headers.{header_verdict}
use Rattle.rules.specs.Words.{rule_there}
use Rattle.rules.specs.Good.{list_verdict}
use Rattle.rules.specs.Matching.{first_miss}

unfoldable pub there_verdict : List ℕ → ℕ → Verdict
there_verdict rs n = refuse_unless (rule_there rs n) (RuleNotGood n)

unfoldable pub miss_verdict : List ℕ → List ℕ → ℕ → Verdict
miss_verdict rs h n = list_verdict rs then header_verdict h then there_verdict rs n

abbrev pub paper : Result ℕ Refusal → Paper
paper = counted

abbrev pub MissOf : List ℕ → List ℕ → ℕ → Result ℕ Refusal → Type 0
MissOf rs h n r = Says paper (there_verdict rs n) (first_miss rs h n ∷ []) r

abbrev pub RuleCompared : List ℕ → List ℕ → ℕ → Result ℕ Refusal → Type 0
RuleCompared rs h n r = Says paper (miss_verdict rs h n) (first_miss rs h n ∷ []) r
