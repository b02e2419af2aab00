-- The rule check. Definitions only.
--   paper          an answer of the rule check, on paper: the number of rules
--   RuleChecked    the promise: 1, 2, 11; else the number of rules
use Rattle.refusals.specs.declared.Refusal.{Refusal}
use Rattle.std.specs.Prelude.{ℕ, List, [], ◌∷◌, Result}
use Rattle.refusals.specs.Paper.{Paper, counted}
use Rattle.refusals.specs.Promises.{Says}
use Rattle.rules.specs.Words.{rule_count}
use Rattle.rules.specs.Good.{list_verdict}

abbrev pub paper : Result ℕ Refusal → Paper
paper = counted

abbrev pub RuleChecked : List ℕ → Result ℕ Refusal → Type 0
RuleChecked rs r = Says paper (list_verdict rs) (rule_count rs ∷ []) r
