-- `rule_file::read::rule_line` meets its contract: the line that was taken decides, and its words are stored.
-- Assumes nothing.
use Prim.Native.Nat.{◌*◌}
use native.Mathlib.Omega.{arith}
use mathlib.Core.Path.{ap, ◌∙◌}
use lib.Seq.{sets}
use Rattle.facts.proofs.Bools.{held, failed}
use mathlib.Core.Path.{sym}
use Rattle.refusals.proofs.Passing.{passed}
use Rattle.rules.specs.Words.{rule_words}
use Rattle.text.proofs.NextLines.{line_next, line_refused}
use Rattle.rule_file.proofs.ReadLines.{rule_taken, rule_wrong, rule_not}
use Rattle.rule_file.proofs.read.rule_line.Goals as goal

pub returns-then-not-rule_fits : goal.returns-then-not-rule_fits
returns-then-not-rule_fits c = let taken = line_next _ _ _ _ (sym c.rule_fields.ensures ∙ c.in_ok-read.was) in
    let test = failed c.rule_fits.ensures c.if-not-rule_fits.true in
    rule_wrong c.args.kind (omega (arith, c.well_formed)) c.requires.0 _ taken test c.wrong.ensures

pub returns-in_err-read : goal.returns-in_err-read
returns-in_err-read c = let refused = line_refused _ _ _ _ (sym c.rule_fields.ensures ∙ c.in_err-read.was) in
    rw (passed _ c.from_residual.ensures.1) (rule_not c.args.kind (omega (arith, c.well_formed)) c.requires.0 _ refused)

pub returns : goal.returns
returns c = let taken = line_next _ _ _ _ (sym c.rule_fields.ensures ∙ c.in_ok-read.was) in
    let test = held c.rule_fits.ensures c.if-not-rule_fits.false in
    let stored = c.store_all.ensures ∙ ap (sets c.args.rules.now (c.args.i * rule_words)) c.rule_of.ensures in
    rule_taken c.args.kind (omega (arith, c.well_formed)) c.requires.0 _ taken test stored
