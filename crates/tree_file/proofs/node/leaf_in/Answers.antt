-- `tree_file::node::leaf_in` meets its contract: the two numbers are judged, and then the entries. Assumes nothing.
use native.Mathlib.Omega.{arith}
use mathlib.Core.Path.{sym, ◌∙◌}
use Rattle.refusals.proofs.Passing.{passed}
use Rattle.facts.proofs.Bools.{held, failed}
use Rattle.text.proofs.Views.{fields_next, fields_refused}
use Rattle.tree_file.proofs.SoFar.{few_of}
use Rattle.tree_file.proofs.Tests.{leaf_passes}
use Rattle.tree_file.proofs.NodeLine.{leaf_misfits, leaf_stores}
use Rattle.tree_file.proofs.NodeLine as line
use Rattle.tree_file.proofs.node.leaf_in.Goals as goal

pub leaf_fits-requires : goal.leaf_fits-requires
leaf_fits-requires c = omega (arith, c.requires.at_in_bounds.1.pool, (few_of _ _ _ c.requires.at_in_bounds.1.limits.fit).pool)

pub returns-then-not-leaf_fits : goal.returns-then-not-leaf_fits
returns-then-not-leaf_fits c = let f = fields_next _ _ _ _ (sym c.fields.ensures ∙ c.in_ok-read.was) in
    leaf_misfits _ _ _ _ _ c.requires.at_in_bounds.1 c.requires.line_value _ _ f _ _
    (failed c.leaf_fits.ensures c.if-not-leaf_fits.true) c.wrong.ensures

pub overflow_cast-filled : goal.overflow_cast-filled
overflow_cast-filled c = omega (arith, c.requires.at_in_bounds.1.pool, (few_of _ _ _ c.requires.at_in_bounds.1.limits.fit).pool)

pub entries_in-requires : goal.entries_in-requires
entries_in-requires c = let f = fields_next _ _ _ _ (sym c.fields.ensures ∙ c.in_ok-read.was) in
    let passes = leaf_passes _ _ _ _ _ _ (held c.leaf_fits.ensures c.if-not-leaf_fits.false) in
    (f.within, omega (arith, c.wide.ensures, passes.2, (few_of _ _ _ c.requires.at_in_bounds.1.limits.fit).pool))

pub returns-in_err-read : goal.returns-in_err-read
returns-in_err-read c = let none = fields_refused _ _ _ _ (sym c.fields.ensures ∙ c.in_err-read.was) in
    rw (passed _ c.from_residual.ensures.1)
    (line.leaf_refused _ _ _ _ _ c.requires.at_in_bounds.1 c.requires.line_value _ _ _ _ none.0 none.1)

pub returns : goal.returns
returns c = leaf_stores _ _ _ _ _ c.requires.at_in_bounds.1 c.requires.line_value _ _
    (fields_next _ _ _ _ (sym c.fields.ensures ∙ c.in_ok-read.was))
    (held c.leaf_fits.ensures c.if-not-leaf_fits.false)
    c.store_node.ensures
    (rw c.wide.ensures at c.entries_in.ensures)
