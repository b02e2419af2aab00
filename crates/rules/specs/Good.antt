-- Good rules and good lists. Definitions only.
--   fields_good rs r    each field of rule r is good
--   good_to most rs r   rule r is good, with an action of at most `most`
--   good rs r           rule r is good: each field is, and its action is at most the largest
--   rule_good rs r      rule r is wholly lent and good
--   rule_verdict most rs r   2 at rule r, where it is not good with an action of at most `most`
--   rules_verdict most rs    1 for words that are not whole rules or too many, then 2 at the lowest such rule
--   list_verdict_to most rs  1, 2, then 11 at the lowest rule that has a twin before it
--   list_verdict rs     the same for any good rules
use Rattle.std.specs.Prelude.{ℕ, ◌*◌, ◌%◌, Bool, ◌&&◌, List, length, leb, eqb}
use Rattle.facts.specs.Below.{all_below}
use Rattle.refusals.specs.declared.Refusal.TheVariants.{RuleWordsWrong, RuleNotGood}
use Rattle.refusals.specs.Verdict.{Verdict}
use Rattle.refusals.specs.Order.{refuse_unless, ◌then◌, in_turn}
use Rattle.fields.specs.Words.{field_count}
use Rattle.fields.specs.Fields.{field_good}
use Rattle.rules.specs.Words.{rule_words, most_rules, rule_count, rule_there}
use Rattle.rules.specs.Words.{action_of, largest_action, form_of, field_of}
use Rattle.rules.specs.Twins.{twins_verdict}

unfoldable pub fields_good : List ℕ → ℕ → Bool
fields_good rs r = all_below field_count (λ f. field_good (field_of (form_of f) rs r))

unfoldable pub good_to : ℕ → List ℕ → ℕ → Bool
good_to most rs r = fields_good rs r && leb (action_of rs r) most

abbrev pub good : List ℕ → ℕ → Bool
good rs r = good_to largest_action rs r

unfoldable pub rule_good : List ℕ → ℕ → Bool
rule_good rs r = rule_there rs r && good rs r

unfoldable pub rule_verdict : ℕ → List ℕ → ℕ → Verdict
rule_verdict most rs r = refuse_unless (good_to most rs r) (RuleNotGood r)

unfoldable pub rules_verdict : ℕ → List ℕ → Verdict
rules_verdict most rs =
    refuse_unless (eqb (length rs % rule_words) 0) RuleWordsWrong then
    refuse_unless (leb (length rs) (most_rules * rule_words)) RuleWordsWrong then
    in_turn (rule_count rs) 0 (rule_verdict most rs)

unfoldable pub list_verdict_to : ℕ → List ℕ → Verdict
list_verdict_to most rs = rules_verdict most rs then twins_verdict rs

abbrev pub list_verdict : List ℕ → Verdict
list_verdict rs = list_verdict_to largest_action rs
