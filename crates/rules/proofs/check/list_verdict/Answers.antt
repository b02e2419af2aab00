-- `rules::check::list_verdict` meets its contract: the list is judged with the largest action. Assumes nothing.
use Rattle.rules.proofs.check.list_verdict.Goals as goal

pub returns : goal.returns
returns c = c.verdict_to.ensures
