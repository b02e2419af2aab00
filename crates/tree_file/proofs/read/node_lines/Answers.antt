-- `tree_file::read::node_lines` meets its contract: at each turn the nodes before it are stored, and the rest is left.
-- Assumes nothing.
use native.Mathlib.Omega.{arith}
use mathlib.Core.Path.{sym, subst, ◌∙◌}
use Rattle.refusals.proofs.Passing.{passed}
use Rattle.tree_file.specs.ReadSteps.{PassRead}
use Rattle.tree_file.specs.NodeSteps.{NodeLineRead}
use Rattle.tree_file.proofs.SoFar.{few_of}
use Rattle.tree_file.proofs.Passes.{so_far_refused, so_far_step}
use Rattle.tree_file.proofs.Passes.{so_far_ends_not, so_far_ends}
use Rattle.tree_file.proofs.read.node_lines.Goals as goal
use Rattle.tree_file.proofs.read.node_lines.Goals.{At-loop-i}

pub returns-in_err-sum : goal.returns-in_err-sum
returns-in_err-sum c = rw (passed _ c.from_residual.ensures.1)
    (PassRead.refuses
    (so_far_refused c.loop-i.invariant
    (subst (NodeLineRead _ _ _ _ _ _ _ _ _) c.in_err-sum.was c.node_line.ensures)))

pub loop-i-preserved : goal.loop-i-preserved
loop-i-preserved c = so_far_step c.loop-i.invariant (omega (arith, c.loop-i-test.true))
    (subst (NodeLineRead _ _ _ _ _ _ _ _ _) c.in_ok-sum.was c.node_line.ensures)

pub overflow_add-count : goal.overflow_add-count
overflow_add-count c = omega (arith, (few_of _ _ _ c.requires.1.fit).nodes)

pub returns-in_err-end_line : goal.returns-in_err-end_line
returns-in_err-end_line c = rw (passed _ c.from_residual-in_err-end_line.ensures.1)
    (PassRead.refuses
    (so_far_ends_not c.loop-i.invariant (omega (arith, c.well_formed))
    (omega (arith, c.loop-i-test.false))
    (sym c.in_err-end_line.was ∙ c.end_line.ensures)))

pub returns : goal.returns
returns c = PassRead.stores
    (so_far_ends c.loop-i.invariant (omega (arith, c.well_formed))
    (omega (arith, c.loop-i-test.false))
    (sym c.in_ok-end_line.was ∙ c.end_line.ensures))
