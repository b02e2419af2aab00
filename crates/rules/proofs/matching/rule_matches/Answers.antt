-- `rules::matching::rule_matches` meets its contract: a rule that is not there and a header of another length match
-- nothing, and else the two are compared.
use mathlib.Core.Path.{sym, ◌∙◌}
use borrow.Author.Tests.{ltb-true}
use borrow.Author.Rules.{rules}
use Rattle.facts.proofs.Bools.{held}
use Rattle.rules.specs.Matching.{rule_matches}
use Rattle.rules.proofs.AnyWords.{rule_matches_of_there}
use Rattle.rules.proofs.matching.rule_matches.Goals as goal

pub matches-requires : goal.matches-requires
matches-requires c = let both = c.if-header-eq-FIELDS.true in (ltb-true _ _ (held c.rule_there.ensures both.0), both.1)

pub returns-then-header-eq-FIELDS : goal.returns-then-header-eq-FIELDS
returns-then-header-eq-FIELDS c = let both = c.if-header-eq-FIELDS.true in
    let there = ltb-true _ _ (held c.rule_there.ensures both.0) in
    c.matches.ensures ∙ sym (rule_matches_of_there _ _ _ there both.1)

pub returns-else-header-eq-FIELDS : goal.returns-else-header-eq-FIELDS
unfolding rule_matches
returns-else-header-eq-FIELDS c = search rules
