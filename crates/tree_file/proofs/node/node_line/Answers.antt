-- `tree_file::node::node_line` meets its contract: the newline is found first, and then the line decides.
-- Assumes nothing.
use native.Mathlib.Omega.{arith}
use mathlib.Core.Path.{sym, ◌∙◌}
use lib.Seq.{length-take-le}
use Rattle.refusals.proofs.Passing.{passed}
use Rattle.text.proofs.NextLines.{line_end_at_lem, line_end_refused}
use Rattle.tree_file.proofs.Passes.{begins_within, node_stops, node_of_line}
use Rattle.tree_file.proofs.node.node_line.Goals as goal

pub slice_bounds-node_in-end : goal.slice_bounds-node_in-end
slice_bounds-node_in-end c = let e = line_end_at_lem _ _ (sym c.line_end.ensures ∙ c.in_ok-end.was) in
    sym (length-take-le _ _ (omega (arith, e.within)))

pub node_in-requires : goal.node_in-requires
node_in-requires c =
    let e = line_end_at_lem _ _ (sym c.line_end.ensures ∙ c.in_ok-end.was) in
    (begins_within _ _ e, c.requires.1)

pub returns-in_err-end : goal.returns-in_err-end
returns-in_err-end c = let none = line_end_refused _ _ (sym c.line_end.ensures ∙ c.in_err-end.was) in
    rw (passed _ c.from_residual.ensures.1) (node_stops (omega arith) c.requires.0 _ _ _ _ _ _ _ none.0 none.1)

pub returns : goal.returns
returns c =
    node_of_line (omega arith) c.requires.0 _ _ _ _ _ (line_end_at_lem _ _ (sym c.line_end.ensures ∙ c.in_ok-end.was))
    c.node_in.ensures
