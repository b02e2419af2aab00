-- `rule_file::read::first_line` meets its contract: the line that was taken decides. Assumes nothing.
use native.Mathlib.Omega.{arith}
use mathlib.Core.Path.{sym, ◌∙◌}
use Rattle.refusals.proofs.Passing.{passed}
use Rattle.text.proofs.NextLines.{line_next, line_refused}
use Rattle.rule_file.proofs.ReadLines.{first_taken, first_wrong, first_not}
use Rattle.rule_file.proofs.read.first_line.Goals as goal

pub returns-then-n-gt-MOST_RULES : goal.returns-then-n-gt-MOST_RULES
returns-then-n-gt-MOST_RULES c = let taken = line_next _ _ _ _ (sym c.first_fields.ensures ∙ c.in_ok-read.was) in
    first_wrong c.args.kind (omega (arith, c.well_formed)) taken c.if-n-gt-MOST_RULES.true c.wrong.ensures

pub returns-in_err-read : goal.returns-in_err-read
returns-in_err-read c = rw (passed _ c.from_residual.ensures.1)
    (first_not c.args.kind (omega (arith, c.well_formed))
    (line_refused _ _ _ _ (sym c.first_fields.ensures ∙ c.in_err-read.was)))

pub returns : goal.returns
returns c = let taken = line_next _ _ _ _ (sym c.first_fields.ensures ∙ c.in_ok-read.was) in
    first_taken c.args.kind (omega (arith, c.well_formed)) taken c.if-n-gt-MOST_RULES.false
