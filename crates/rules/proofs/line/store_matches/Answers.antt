-- `rules::line::store_matches` meets its contract. The invariant: what is stored, and what will be of the rules from
-- here on, are all that match. Assumes nothing.
use native.Mathlib.Nat.{sub-zero}
use native.Mathlib.Omega.{arith}
use mathlib.Core.Path.{sym, ◌∙◌}
use Rattle.facts.proofs.Steps.{up_step, up_end}
use Rattle.facts.proofs.Filling.{filled_first, filled_size, filled_in, filled_out, filled_last}
use Rattle.rules.specs.Scan.{scan_count}
use Rattle.rules.proofs.Searches.{scan_count_at_most, scan_count_fits}
use Rattle.rules.proofs.line.store_matches.Goals as goal
use Rattle.rules.proofs.line.store_matches.Goals.{then-matches, else-matches}

pub loop-r-init : goal.loop-r-init
loop-r-init c = (omega arith, rw sub-zero (filled_first _ _ _))

pub matches-requires : goal.matches-requires
matches-requires c = (omega (arith, scan_count_at_most c.args.rules.now), c.requires)

pub overflow_cast-r : goal.overflow_cast-r
overflow_cast-r c = omega (arith, scan_count_fits c.args.rules.now)

pub loop-r-preserved : goal.loop-r-preserved
loop-r-preserved c = let rules = c.args.rules.now in
    let step = up_step (scan_count rules) c.loop-r.r (omega arith) in
    let said = sym c.matches.ensures in
    elim c.if-matches.branch [
      | then-matches w ↦ (
        omega (arith, w.n-is),
        rw (w.out-is, w.n-is) (filled_in c.loop-r.invariant.1 step (said ∙ w.if-matches.true) w.store.ensures),
      )
      | else-matches w ↦ (
        omega (arith, w.n-is),
        rw (w.out-is, w.n-is) (filled_out c.loop-r.invariant.1 step (said ∙ w.if-matches.false)),
      )
    ]

pub shape_of-out : goal.shape_of-out
shape_of-out c = filled_size c.loop-r.invariant.1

pub returns : goal.returns
returns c = filled_last c.loop-r.invariant.1 (up_end _ _ (omega arith))
