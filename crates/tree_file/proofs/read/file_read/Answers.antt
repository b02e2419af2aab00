-- `tree_file::read::file_read` meets its contract: the first pass judges and counts, and the second stores.
-- Assumes nothing.
use native.Mathlib.Omega.{arith}
use mathlib.Core.Path.{refl, subst}
use Rattle.refusals.proofs.Passing.{passed}
use Rattle.tree_file.specs.ReadSteps.{PassRead}
use Rattle.tree_file.proofs.ReadAnswers.{stored_of, stored_few, text_refused}
use Rattle.tree_file.proofs.ReadAnswers.{nodes_refused, pool_refused, read_again}
use Rattle.tree_file.proofs.read.file_read.Goals as goal

pub overflow_mul-words : goal.overflow_mul-words
overflow_mul-words c = let f = subst (PassRead _ _ _ _ _) c.in_ok-counts.was c.read_pass.ensures in
    omega (arith, (stored_few _ _ (stored_of f)).0)

pub returns-then-nodes-words : goal.returns-then-nodes-words
returns-then-nodes-words c =
    let first = stored_of (subst (PassRead _ _ _ _ _) c.in_ok-counts.was c.read_pass.ensures) in
    nodes_refused _ _ c.read_pass.auto.nodes c.read_pass.auto.pool first refl c.if-nodes-words.true

pub returns-then-pool-counts : goal.returns-then-pool-counts
returns-then-pool-counts c =
    let first = stored_of (subst (PassRead _ _ _ _ _) c.in_ok-counts.was c.read_pass.ensures) in
    pool_refused _ _ c.read_pass.auto.nodes c.read_pass.auto.pool first c.if-nodes-words.false
    c.if-pool-counts.true

pub returns-in_err-counts : goal.returns-in_err-counts
returns-in_err-counts c = rw (passed _ c.from_residual.ensures.1)
    (text_refused _ _ c.read_pass.auto.nodes c.read_pass.auto.pool
    (subst (PassRead _ _ _ _ _) c.in_err-counts.was c.read_pass.ensures))

pub returns : goal.returns
returns c =
    let first = stored_of (subst (PassRead _ _ _ _ _) c.in_ok-counts.was c.read_pass.ensures) in
    read_again _ _ c.read_pass.auto.nodes c.read_pass.auto.pool first c.if-nodes-words.false
    c.if-pool-counts.false c.read_pass-2.ensures
