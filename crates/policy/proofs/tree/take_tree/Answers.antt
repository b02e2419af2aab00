-- `policy::tree::take_tree` meets its contract: what the reader says of the text, with three words for each node. Assumes
-- nothing.
use Rattle.refusals.proofs.Passing.{passed}
use mathlib.Core.Path.{sym}
use native.Mathlib.Omega.{arith}
use Rattle.policy.proofs.Taking.{tree_refused, tree_found, tree_within, tree_not_read, tree_by}
use Rattle.policy.proofs.tree.take_tree.Goals as goal

pub returns-in_default : goal.returns-in_default
returns-in_default c = tree_by _ _ (sym c.in_default.ensures) (tree_not_read _ _)

pub overflow_mul-result : goal.overflow_mul-result
overflow_mul-result c = omega (arith, tree_within _ c.tree_read.ensures c.in_ok-read.was)

pub returns-in_err-read : goal.returns-in_err-read
returns-in_err-read c = rw (passed _ c.from_residual.ensures.1)
    (tree_by _ _ (sym c.in-Some.ensures) (tree_refused _ c.tree_read.ensures c.in_err-read.was))

pub returns : goal.returns
returns c = tree_by _ _ (sym c.in-Some.ensures) (tree_found _ c.tree_read.ensures c.in_ok-read.was)
