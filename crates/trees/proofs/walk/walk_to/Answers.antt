-- `trees::walk::walk_to` meets its contract. The invariant: so many cuts lie behind, and the walk from here on decides.
-- Numbers rise on the way. Assumes nothing.
use Prim.Native.Nat.{◌+◌, ◌*◌, ◌^◌}
use native.Mathlib.Omega.{arith}
use mathlib.Core.Path.{◌≡◌, sym, ◌∙◌}
use Rattle.trees.specs.declared.walk.Step.TheVariants.{Next}
use Rattle.trees.specs.Words.{node_words}
use Rattle.trees.specs.Walk.{step_of}
use Rattle.trees.proofs.Walking.{next_means, goes_on_rises, goes_on_below}
use Rattle.trees.proofs.WalkLoop.{walking_first, walking_lost, walking_came, walking_step}
use Rattle.trees.proofs.walk.walk_to.Goals as goal

-- where the code goes on to a node, so does the walk
step :
    (c : goal.In-Next) →
    let s = c.args in
    step_of s.nodes.now s.header.now c.loop-node.at ≡ Next c.in-Next.node
step c = sym c.step_of.ensures ∙ c.in-Next.is

pub loop-node-init : goal.loop-node-init
loop-node-init c = (omega arith, walking_first _ _)

pub step_of-requires : goal.step_of-requires
step_of-requires c = (c.requires, c.loop-node.invariant.0)

pub returns-in-Wrong : goal.returns-in-Wrong
returns-in-Wrong c = walking_lost c.loop-node.invariant.1
    (sym c.step_of.ensures ∙ c.in-Wrong.is)

pub overflow_add-result : goal.overflow_add-result
overflow_add-result c = omega (arith, c.loop-node.invariant.1.behind)

pub returns-in-Leaf : goal.returns-in-Leaf
returns-in-Leaf c = walking_came c.loop-node.invariant.1
    (sym c.step_of.ensures ∙ c.in-Leaf.is)

pub overflow_add-visited : goal.overflow_add-visited
overflow_add-visited c = omega (arith, c.loop-node.invariant.1.behind)

pub loop-node-smaller : goal.loop-node-smaller
loop-node-smaller c = let g = next_means _ _ _ (step c) in
    omega (arith, g.there, goes_on_rises g)

pub loop-node-preserved : goal.loop-node-preserved
loop-node-preserved c = let word = c.type_inv.nodes (c.loop-node.at * node_words + 2) in
    let low = goes_on_below (next_means _ _ _ (step c)) (2 ^ 61) (omega arith) (omega (arith, word)) in
    (omega (arith, low), walking_step c.loop-node.invariant.1 (step c))
