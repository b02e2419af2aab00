-- `policy::serving::checked` meets its contract: what the tree check says decides. Assumes nothing.
use mathlib.Core.Path.{◌∙◌}
use Rattle.policy.proofs.Servers.{check_refused, check_accepted}
use Rattle.policy.proofs.serving.checked.Goals as goal

pub returns-in-Err : goal.returns-in-Err
returns-in-Err c = c.by_list.ensures ∙ check_refused _ _ _ c.tree_check.ensures c.in-Err.is

pub returns-in-Ok : goal.returns-in-Ok
returns-in-Ok c = c.by_tree.ensures ∙ check_accepted _ _ _ c.tree_check.ensures c.in-Ok.is
