-- `compile::write_asked` meets its contract, by what is asked. Assumes nothing.
use Rattle.compile.proofs.Asked.{due_as}
use Rattle.compile.proofs.write_asked.Goals as goal

pub returns-in-Whole : goal.returns-in-Whole
returns-in-Whole c =
    due_as _ _ c.in-Whole.is c.write_tree.ensures

pub returns-in-First : goal.returns-in-First
returns-in-First c =
    due_as _ _ c.in-First.is c.write_first.ensures

pub returns-in-Next : goal.returns-in-Next
returns-in-Next c =
    due_as _ _ c.in-Next.is c.write_next.ensures
