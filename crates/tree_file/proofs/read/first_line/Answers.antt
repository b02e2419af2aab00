-- `tree_file::read::first_line` meets its contract: the line is read, and then its counts decide. Assumes nothing.
use native.Mathlib.Omega.{arith}
use mathlib.Core.Path.{sym, ◌∙◌}
use Rattle.refusals.proofs.Passing.{passed}
use Rattle.facts.proofs.Bools.{held, failed}
use Rattle.text.proofs.NextLines.{line_next, line_refused}
use Rattle.tree_file.proofs.FirstLines.{first_not, first_wrong, first_taken}
use Rattle.tree_file.proofs.read.first_line.Goals as goal

pub returns-then-not-counts_fit : goal.returns-then-not-counts_fit
returns-then-not-counts_fit c = first_wrong (omega (arith, c.well_formed))
    (line_next _ _ _ _ (sym c.line.ensures ∙ c.in_ok-read.was)) c.wide-rules.ensures
    c.wide-nodes.ensures c.wide-pool.ensures
    (failed c.counts_fit.ensures c.if-not-counts_fit.true) c.wrong.ensures

pub returns-in_err-read : goal.returns-in_err-read
returns-in_err-read c = rw (passed _ c.from_residual.ensures.1)
    (first_not (omega (arith, c.well_formed)) (line_refused _ _ _ _ (sym c.line.ensures ∙ c.in_err-read.was)))

pub returns : goal.returns
returns c = first_taken (omega (arith, c.well_formed))
    (line_next _ _ _ _ (sym c.line.ensures ∙ c.in_ok-read.was)) c.wide-rules.ensures
    c.wide-nodes.ensures c.wide-pool.ensures (held c.counts_fit.ensures c.if-not-counts_fit.false)
