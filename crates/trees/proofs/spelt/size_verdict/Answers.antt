-- `trees::spelt::size_verdict` meets its contract: the four tests are those of `size_verdict`, in its order.
-- Assumes nothing.
use native.Mathlib.Omega.{arith}
use Rattle.std.proofs.lemmas.Bool.Decides.{nat_tests}
use Rattle.trees.proofs.Sizes.{none_wrong, broken_wrong, many_wrong, pool_wrong, pool_fine}
use Rattle.trees.proofs.spelt.size_verdict.Goals as goal

pub returns-then-is_empty : goal.returns-then-is_empty
returns-then-is_empty c = none_wrong _ _ (grind (arith, nat_tests))

pub returns-then-nodes-ne0 : goal.returns-then-nodes-ne0
returns-then-nodes-ne0 c = broken_wrong _ _ (grind (arith, nat_tests)) c.if-nodes-ne0.true

pub returns-then-nodes : goal.returns-then-nodes
returns-then-nodes c = many_wrong _ _ (omega (arith, c.if-nodes.true)) c.if-nodes-ne0.false c.if-nodes.true

pub returns-then-pool-gt-MOST_POOL : goal.returns-then-pool-gt-MOST_POOL
returns-then-pool-gt-MOST_POOL c =
    pool_wrong _ _ (grind (arith, nat_tests)) c.if-nodes-ne0.false c.if-nodes.false c.if-pool-gt-MOST_POOL.true

pub returns : goal.returns
returns c = pool_fine _ _ (grind (arith, nat_tests)) c.if-nodes-ne0.false c.if-nodes.false c.if-pool-gt-MOST_POOL.false
