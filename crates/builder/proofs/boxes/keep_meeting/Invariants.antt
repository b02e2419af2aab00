-- `builder::boxes::keep_meeting` meets its contract. The invariant: what is stored, and what will be of the numbers
-- from here on, are all whose boxes meet the bounds. Assumes nothing.
use Prim.Native.Nat.{◌≤◌}
use lib.ListN.{drop}
use Rattle.facts.proofs.Filling.{Filled}
use Rattle.builder.specs.BoxWords.{met_by}
use Rattle.builder.proofs.boxes.keep_meeting.Given as goal

abbrev pub invariant-loop-number : goal.invariant-loop-number
invariant-loop-number l = (l.n ≤ l.number-index) × Filled (met_by l.boxes l.bounds) l.above (drop l.number-index l.above) l.initial.out l.out l.n
