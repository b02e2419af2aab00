-- Why a rule missed: what the call says of a rule and a header, and what the program `why` replies. Statements only.
use Rattle.std.specs.Prelude.{ℕ, ◌<◌, true, false, ◌↔◌, ◌≡◌, List, ◌∷◌, ◌++◌, Err, Ok}
use Rattle.facts.specs.Lists.{has}
use Rattle.refusals.specs.declared.Refusal.{Refusal}
use Rattle.refusals.specs.declared.Refusal.TheVariants.{RuleNotGood}
use Rattle.fields.specs.Words.{field_count}
use Rattle.rules.specs.Words.{rule_count, action_of}
use Rattle.rules.specs.Matching.{agrees, matches, matching}
use Rattle.rules.specs.RuleMisses.{RuleCompared}
use Rattle.text.specs.Words.{tab}
use Rattle.text.specs.Numbers.{digits_of}
use Rattle.rule_file.specs.declared.kind.Kind.TheVariants.{Rules, Acl}
use Rattle.rule_file.specs.ListText.{line_of}
use Rattle.rule_file.specs.RuleText.{format_of}
use Rattle.rule_file.specs.Pieces.{words_line}
use Rattle.console.specs.Lines.{refused_line}
use Rattle.console.specs.MissLines.{miss_line, miss_answer}

-- a rule, good or not, matches any words exactly where each of its fields agrees with them
abbrev pub ByFields : Type 0
ByFields =
    (rs h : List ℕ) (r : ℕ) → (matches rs h r ≡ true) ↔ ((f : ℕ) → f < field_count → agrees rs h r f ≡ true)

-- for a good list and a legal header, the call says 5 exactly where there is such a rule and it matches, so exactly
-- where the line search lists it; a lower number exactly where there is such a rule, that field disagrees, and all
-- lower ones agree; and 2 with the number as place exactly where there is no such rule
pub record Misses (rs h : List ℕ) (n : ℕ) : Type 0 where
  pub five : RuleCompared rs h n (Ok field_count) ↔ ((n < rule_count rs) × (matches rs h n ≡ true))
  pub listed : RuleCompared rs h n (Ok field_count) ↔ (has (matching rs h) n ≡ true)
  pub lower :
      (f : ℕ) → f < field_count →
      RuleCompared rs h n (Ok f) ↔
      ((n < rule_count rs) × (agrees rs h n f ≡ false) × ((g : ℕ) → g < f → agrees rs h n g ≡ true))
  pub no_rule : RuleCompared rs h n (Err (RuleNotGood n)) ↔ (n < rule_count rs → ⊥)

-- for any words, the reply of the program is the line of what the call says; and the line of a rule in its file is the
-- word `rule`, its number, and then the rule's own words for each field in turn, with the action behind them in a file
-- with actions
pub record Why (rs : List ℕ) (n : ℕ) : Type 0 where
  pub says : (h : List ℕ) (f : ℕ) → RuleCompared rs h n (Ok f) → miss_answer rs n h ≡ miss_line rs n f
  pub refuses : (h : List ℕ) (why : Refusal) → RuleCompared rs h n (Err why) → miss_answer rs n h ≡ refused_line why
  pub own_words : n < rule_count rs → line_of (format_of Rules) rs n ≡ words_line rs n
  pub with_action : n < rule_count rs → line_of (format_of Acl) rs n ≡ words_line rs n ++ (tab ∷ digits_of (action_of rs n))
