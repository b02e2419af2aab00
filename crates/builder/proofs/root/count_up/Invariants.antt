-- `builder::root::count_up` meets its contract. The invariant: the words before i are counted up. Assumes nothing.
use lib.ListN.{length}
use Rattle.builder.proofs.CountingUp.{CountedUp}
use Rattle.builder.proofs.root.count_up.Given as goal

abbrev pub invariant-loop-i : goal.invariant-loop-i
invariant-loop-i l = CountedUp (length l.initial.out) l.out l.i
