-- `trees::search::store_entries` meets its contract. The invariant: what is stored, and what will be of the entries
-- from here on, are all that match. Assumes nothing.
use native.Mathlib.Omega.{arith}
use mathlib.Core.Path.{◌∙◌}
use Rattle.facts.proofs.Steps.{drop_step, drop_end}
use Rattle.facts.proofs.Filling.{filled_in, filled_out, filled_last}
use Rattle.trees.proofs.Entries.{compared}
use Rattle.trees.proofs.search.store_entries.Goals as goal
use Rattle.trees.proofs.search.store_entries.Goals.{then-rule_matches, else-rule_matches}

pub loop-number-preserved : goal.loop-number-preserved
loop-number-preserved c =
    let turn = c.loop-number-test.true in
    let step = drop_step _ c.loop-number.number-index turn in
    let said = compared c.requires turn c.wide.ensures c.rule_matches.ensures in
    elim c.if-rule_matches.branch [
      | then-rule_matches w ↦ (
        omega (arith, w.n-is),
        rw (w.out-is, w.n-is)
            (filled_in c.loop-number.invariant.1 step (said ∙ w.if-rule_matches.true) w.store.ensures),
      )
      | else-rule_matches w ↦ (
        omega (arith, w.n-is),
        rw (w.out-is, w.n-is) (filled_out c.loop-number.invariant.1 step (said ∙ w.if-rule_matches.false)),
      )
    ]

pub returns : goal.returns
returns c = filled_last c.loop-number.invariant.1 (drop_end _ _ c.loop-number-test.false)
