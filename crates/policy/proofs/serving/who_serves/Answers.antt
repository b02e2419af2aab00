-- `policy::serving::who_serves` meets its contract: of the words that were taken the check decides. Assumes nothing.
use Rattle.policy.proofs.Servers.{serves_list, serves_checked}
use Rattle.policy.proofs.serving.who_serves.Goals as goal

pub returns-in-Err : goal.returns-in-Err
returns-in-Err c = serves_list _ _ _ c.in-Err.is c.by_list.ensures

pub returns-in-Ok : goal.returns-in-Ok
returns-in-Ok c = serves_checked c.args.rules.now c.args.nodes.now c.args.pool.now
    c.in-Ok.is c.min-a.ensures c.min-b.ensures c.checked.ensures
