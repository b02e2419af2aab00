-- `tree_file::node::node_in` meets its contract: a cut line is judged by its numbers, any other is left to the leaf.
-- Assumes nothing.
use mathlib.Core.Path.{sym, ◌∙◌}
use Rattle.facts.proofs.Bools.{held, failed}
use Rattle.text.proofs.LineViews.{whole_next, whole_refused}
use Rattle.tree_file.proofs.NodeLine.{cut_misfits, cut_stores}
use Rattle.tree_file.proofs.node.node_in.Goals as goal

pub leaf_in-requires : goal.leaf_in-requires
leaf_in-requires c = let none = whole_refused _ _ _ _ (sym c.whole.ensures ∙ c.in-Err.is) in
    record { at_in_bounds = c.requires; line_value = none.0 }

pub returns-then-not-cut_fits : goal.returns-then-not-cut_fits
returns-then-not-cut_fits c = let read = whole_next _ _ _ _ (sym c.whole.ensures ∙ c.in-Ok.is) in
    cut_misfits _ _ _ _ _ c.requires.1 read _ _ _ _
    (failed c.cut_fits.ensures c.if-not-cut_fits.true) c.wrong.ensures

pub returns-in-Err : goal.returns-in-Err
returns-in-Err c = c.leaf_in.ensures

pub returns-else-not-cut_fits : goal.returns-else-not-cut_fits
returns-else-not-cut_fits c = let read = whole_next _ _ _ _ (sym c.whole.ensures ∙ c.in-Ok.is) in
    cut_stores _ _ _ _ _ c.requires.1 read _ _
    (held c.cut_fits.ensures c.if-not-cut_fits.false)
    c.store_node.ensures
