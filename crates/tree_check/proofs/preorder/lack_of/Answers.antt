-- `tree_check::preorder::lack_of` meets its contract.
use mathlib.Core.Path.{sym, ap, ◌∙◌}
use Rattle.tree_check.proofs.Leaves.{at_node, lack_at}
use Rattle.tree_check.proofs.preorder.lack_of.Goals as goal

pub returns-in-None : goal.returns-in-None
returns-in-None c = let a = c.args in
    ap (at_node a.at) (sym (c.in-None.is) ∙ c.lowest_lacking.ensures) ∙
    lack_at a.rules.now a.entries.now a.bounds a.at

pub returns-in-Some : goal.returns-in-Some
returns-in-Some c = let a = c.args in
    ap (at_node a.at) (sym (c.in-Some.is) ∙ c.lowest_lacking.ensures) ∙
    lack_at a.rules.now a.entries.now a.bounds a.at
