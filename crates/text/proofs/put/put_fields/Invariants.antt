-- `text::put::put_fields` meets its contract: at each turn the fields before it are put. Assumes nothing.
use lib.ListN.{length, take}
use Rattle.text.specs.Line.{print_fields}
use Rattle.text.specs.Puts.{Put}
use Rattle.text.proofs.put.put_fields.Given as goal

abbrev pub invariant-loop-mark : goal.invariant-loop-mark
invariant-loop-mark l =
    Put l.initial.out l.at
    (print_fields (take (length l.yielded) l.marks) (take (length l.yielded) l.values)) l.out l.p
