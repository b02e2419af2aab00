-- `console::reply::search` meets its contract: a refusal, the scan, or the tree search. Assumes nothing.
use Rattle.std.specs.Prelude.{Ok}
use mathlib.Core.Path.{ap, ◌∙◌}
use Rattle.refusals.proofs.Passing.{passed}
use Rattle.console.proofs.Searching.{by_refused, by_list, by_tree_refused, by_tree_found}
use Rattle.console.proofs.reply.search.Goals as goal

pub returns-in_err-by : goal.returns-in_err-by
returns-in_err-by c = rw (passed _ c.from_residual.ensures.1) (by_refused _ _ _ _ c.in_err-by.was)

pub returns-in-List : goal.returns-in-List
returns-in-List c = by_list _ _ _ _ (c.in_ok-by.was ∙ ap Ok c.in-List.is) c.scan_all.ensures

pub returns-in_err-found-in-Tree : goal.returns-in_err-found-in-Tree
returns-in_err-found-in-Tree c = rw (passed _ c.from_residual-in_err-found-in-Tree.ensures.1)
    (by_tree_refused _ _ _ _ (c.in_ok-by.was ∙ ap Ok c.in-Tree.is) c.in_err-found-in-Tree.was c.tree_all.ensures)

pub returns-in_ok-found-in-Tree : goal.returns-in_ok-found-in-Tree
returns-in_ok-found-in-Tree c =
    by_tree_found _ _ _ _ (c.in_ok-by.was ∙ ap Ok c.in-Tree.is) c.in_ok-found-in-Tree.was c.tree_all.ensures
