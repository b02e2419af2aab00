-- `builder::choice::store_ends` meets its contract. The invariant: the ends of the boxes before this one are stored,
-- two at most for each, and those of the others are left. Assumes nothing.
use Prim.Native.Nat.{◌*◌, ◌≤◌}
use lib.ListN.{drop}
use Rattle.facts.specs.Lists.{keep}
use Rattle.fields.specs.Cuts.{divides}
use Rattle.builder.specs.ChoiceSteps.{all_ends}
use Rattle.builder.proofs.StoringEnds.{Storing}
use Rattle.builder.proofs.choice.store_ends.Given as goal

abbrev pub invariant-loop-number : goal.invariant-loop-number
invariant-loop-number l = (l.n ≤ 2 * l.number-index) ×
    Storing (keep (divides l.bounds l.f) (all_ends l.boxes l.f l.met)) (keep (divides l.bounds l.f) (all_ends l.boxes l.f (drop l.number-index l.met)))
    l.initial.values l.n l.values
