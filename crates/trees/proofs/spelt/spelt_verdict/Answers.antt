-- `trees::spelt::spelt_verdict` meets its contract: the nodes decide in turn, and then the counts. The invariant: the
-- nodes before this one are fine, and the sum is that of their counts, within the pool. Assumes nothing.
use Prim.Native.Nat.{◌+◌, ◌≤◌}
use native.Mathlib.Omega.{arith}
use mathlib.Core.Path.{◌≡◌, sym, ap, ◌∙◌}
use lib.ListN.{length}
use lib.Dec.{eqb}
use borrow.Author.Tests.{eq-eqb, ne_eqb}
use Rattle.refusals.specs.declared.Refusal.TheVariants.{LeafWrong}
use Rattle.refusals.specs.Verdict.{Fine}
use Rattle.refusals.specs.Order.{refuse_unless}
use Rattle.refusals.proofs.Order.{holds_fine, fails_refused}
use Rattle.refusals.proofs.Passing.{passed}
use Rattle.refusals.proofs.Turns.{head_first, head_step, head_stop, head_last}
use Rattle.trees.specs.Words.{node_count}
use Rattle.trees.specs.Spelt.{counts_below, node_verdict, spelt_verdict}
use Rattle.trees.proofs.LeafSpelling.{counts_first}
use Rattle.trees.proofs.NodeSpelling.{sum_goes_on}
use Rattle.trees.proofs.Spelling.{counts_decide, nodes_refuse}
use Rattle.trees.proofs.spelt.spelt_verdict.Goals as goal
use Rattle.trees.proofs.spelt.spelt_verdict.Goals.{After-loop-node}

-- a node that is not refused is fine
fine :
    (c : goal.After-leaf_count-sum) →
    let s = c.args in
    node_verdict s.rules s.nodes.now s.pool.now c.loop-node.node ≡ Fine
fine c = sym c.node_verdict.ensures ∙ c.in_ok-node_verdict.was

-- with the count of this node the sum is that below the next, and within the pool
goes_on :
    (c : goal.After-leaf_count-sum) →
    let s = c.args in
    (c.loop-node.sum + c.leaf_count-sum.result ≡ counts_below s.nodes.now (c.loop-node.node + 1)) ×
    (c.loop-node.sum + c.leaf_count-sum.result ≤ length s.pool.now)
goes_on c =
    let here = c.loop-node.invariant in sum_goes_on _ _ _ _ (fine c) here.0 here.1 c.leaf_count-sum.ensures

-- after the last node the counts decide
decided :
    (c : goal.After-loop-node) →
    let s = c.args in
    refuse_unless (eqb c.loop-node.sum (length s.pool.now)) (LeafWrong (node_count s.nodes.now)) ≡
    spelt_verdict s.rules s.nodes.now s.pool.now
decided c =
    let s = c.args in
    let end : c.loop-node.node ≡ node_count s.nodes.now = omega arith in
    counts_decide _ _ _ (head_last c.loop-node.invariant.2 (omega arith))
    (c.loop-node.invariant.0 ∙ ap (counts_below s.nodes.now) end)

pub loop-node-init : goal.loop-node-init
loop-node-init c = (counts_first _, omega arith, head_first _ _)

pub returns-in_err-node_verdict : goal.returns-in_err-node_verdict
returns-in_err-node_verdict c = rw (passed _ c.from_residual.ensures.1)
    (nodes_refuse _ _ _
    (head_stop c.loop-node.invariant.2 (omega arith)
    (sym c.node_verdict.ensures ∙ c.in_err-node_verdict.was)))

pub overflow_add-sum : goal.overflow_add-sum
overflow_add-sum c = omega (arith, (goes_on c).1)

pub loop-node-preserved : goal.loop-node-preserved
loop-node-preserved c = ((goes_on c).0, (goes_on c).1, head_step c.loop-node.invariant.2 (omega arith) (fine c))

pub returns-then-sum-pool : goal.returns-then-sum-pool
returns-then-sum-pool c =
    sym (fails_refused _ (ne_eqb _ _ c.if-sum-pool.true)) ∙ decided (goal.at.returns-then-sum-pool c).After-loop-node

pub returns : goal.returns
returns c = sym (holds_fine _ (eq-eqb _ _ c.if-sum-pool.false)) ∙ decided (goal.at.returns c).After-loop-node
