-- `trees::search::tree_first` meets its contract: a refusal on the way is the answer, and at the leaf the entries
-- decide. Assumes nothing.
use native.Mathlib.Omega.{arith}
use Rattle.refusals.proofs.Passing.{passed}
use Rattle.trees.proofs.Answers.{AtReached, at_reached, part_within, part_comparable}
use Rattle.trees.proofs.Answers.{first_at_leaf, first_refused}
use Rattle.trees.proofs.search.tree_first.Goals as goal
use Rattle.trees.proofs.search.tree_first.Goals.{In_ok-start}

-- the leaf that was reached
here :
    (c : goal.In_ok-start) →
    let s = c.args in
    AtReached s.rules.now s.nodes.now s.pool.now s.header.now c.in_ok-start.field-0.start
    c.in_ok-start.field-0.count c.in_ok-start.field-0.visited
here c =
    at_reached _ _ _ _
    c.in_ok-start.ensures

pub overflow_add-end : goal.overflow_add-end
overflow_add-end c = omega (arith, part_within _ _ _ _ (here c))

pub offset_bounds-pool-start : goal.offset_bounds-pool-start
offset_bounds-pool-start c = omega (arith, part_within _ _ _ _ (here c))

pub slice_bounds-first_entry-end : goal.slice_bounds-first_entry-end
slice_bounds-first_entry-end c = part_within _ _ _ _ (here c)

pub first_entry-requires : goal.first_entry-requires
first_entry-requires c = part_comparable _ _ _ _ (here (goal.at.first_entry-requires c).In_ok-start)

pub returns-in_err-start : goal.returns-in_err-start
returns-in_err-start c = rw (passed _ c.from_residual.ensures.1)
    (first_refused _ _ _ _
    c.in_err-start.ensures)

pub returns : goal.returns
returns c = first_at_leaf _ _ _ _ (here (goal.at.returns c).In_ok-start) c.first_entry.ensures
