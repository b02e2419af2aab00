-- `trees::search::first_entry` meets its contract. The invariant: no entry before this one matches. Assumes nothing.
use native.Mathlib.Omega.{arith}
use mathlib.Core.Path.{◌≡◌, ap, ◌∙◌}
use lib.ListN.{get_or}
use Rattle.facts.proofs.Steps.{drop_step, drop_end}
use Rattle.rules.specs.Words.{action_of}
use Rattle.rules.specs.Matching.{matches}
use Rattle.trees.proofs.Entries.{compared, looking_step, first_is, first_none}
use Rattle.trees.proofs.search.first_entry.Goals as goal
use Rattle.trees.proofs.search.first_entry.Goals.{After-rule_matches}

-- what the code says of the entry at hand is whether it matches
said :
    (c : goal.After-rule_matches) →
    let s = c.args in
    matches s.rules.now s.header.now (get_or s.leaf.now c.loop-i.i 0) ≡ c.rule_matches.result
said c =
    compared c.requires c.loop-i-test.true
    c.wide-rule.ensures c.rule_matches.ensures

pub returns-then-rule_matches : goal.returns-then-rule_matches
returns-then-rule_matches c =
    first_is _ c.loop-i.invariant (drop_step _ _ c.loop-i-test.true)
    (said (goal.at.returns-then-rule_matches c).After-rule_matches ∙ c.if-rule_matches.true)
    (c.action_of.ensures ∙ ap (action_of c.args.rules.now) c.wide-rule.ensures)

pub loop-i-preserved : goal.loop-i-preserved
loop-i-preserved c =
    looking_step c.loop-i.invariant (drop_step _ _ c.loop-i-test.true)
    (said (goal.at.loop-i-preserved c).After-rule_matches ∙ c.if-rule_matches.false)

pub returns : goal.returns
returns c = first_none _ c.loop-i.invariant (drop_end _ _ c.loop-i-test.false) (omega arith)
