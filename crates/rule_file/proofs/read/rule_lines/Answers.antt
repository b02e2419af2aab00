-- `rule_file::read::rule_lines` meets its contract: at each turn the rules before it are read. Assumes nothing.
use native.Mathlib.Omega.{arith}
use mathlib.Core.Path.{◌≡◌, refl, subst, sym, ap, ◌∙◌}
use lib.ListN.{length}
use lib.Seq.{length-sets}
use Rattle.refusals.proofs.Passing.{passed}
use Rattle.text.specs.Cursors.{cursor_at}
use Rattle.rule_file.specs.ReadSteps.{RuleLineRead}
use Rattle.rule_file.proofs.Passes.{so_far_first, so_far_step, so_far_refused}
use Rattle.rule_file.proofs.Passes.{so_far_ends_not, so_far_ends}
use Rattle.rule_file.proofs.read.rule_lines.Goals as goal
use Rattle.rule_file.proofs.read.rule_lines.Goals.{At-loop-i}

-- what is stored leaves the length as it was
rules-kept :
    (l : goal.At-loop-i) →
    length l.loop-i.rules ≡ length l.args.rules.now
rules-kept l = ap length l.loop-i.invariant.rules_are ∙ simp length-sets

pub loop-i-init : goal.loop-i-init
loop-i-init c = so_far_first c.requires.0

pub rule_line-requires : goal.rule_line-requires
rule_line-requires c = (c.loop-i.invariant.stands, omega (arith, c.requires.1))

pub shape_of-rules-in_err-next : goal.shape_of-rules-in_err-next
shape_of-rules-in_err-next c = c.rule_line.auto.rules ∙ rules-kept (goal.at.shape_of-rules-in_err-next c).At-loop-i

pub returns-in_err-next : goal.returns-in_err-next
returns-in_err-next c = let here = cursor_at c.loop-i.at c.loop-i.lines in
    let Is = RuleLineRead c.args.kind c.args.text.now here c.loop-i.i c.loop-i.rules _ in
    let line = subst Is c.in_err-next.was c.rule_line.ensures in
    rw (passed _ c.from_residual.ensures.1) (so_far_refused c.loop-i.invariant c.loop-i-test.true line)

pub loop-i-preserved : goal.loop-i-preserved
loop-i-preserved c = let here = cursor_at c.loop-i.at c.loop-i.lines in
    let Is = RuleLineRead c.args.kind c.args.text.now here c.loop-i.i c.loop-i.rules _ in
    let line = subst Is c.in_ok-next.was c.rule_line.ensures in
    so_far_step c.loop-i.invariant c.loop-i-test.true line

pub overflow_add-n : goal.overflow_add-n
overflow_add-n c = omega (arith, c.requires.1)

pub shape_of-rules-in_err-end_line : goal.shape_of-rules-in_err-end_line
shape_of-rules-in_err-end_line c = rules-kept (goal.at.shape_of-rules-in_err-end_line c).At-loop-i

pub returns-in_err-end_line : goal.returns-in_err-end_line
returns-in_err-end_line c = rw (passed _ c.from_residual-in_err-end_line.ensures.1)
    (so_far_ends_not c.loop-i.invariant (omega (arith, c.well_formed)) c.loop-i-test.false
    (sym c.in_err-end_line.was ∙ c.end_line.ensures))

pub shape_of-rules : goal.shape_of-rules
shape_of-rules c = rules-kept (goal.at.shape_of-rules c).At-loop-i

pub returns : goal.returns
returns c = so_far_ends c.loop-i.invariant (omega (arith, c.well_formed)) c.loop-i-test.false refl c.requires.1
    (sym c.in_ok-end_line.was ∙ c.end_line.ensures)
