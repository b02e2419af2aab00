-- `text::put::put_numbers` meets its contract: at each turn the numbers before it are put. Assumes nothing.
use Rattle.text.specs.Puts.{Put}
use Rattle.text.proofs.Tabbed.{tabbed_to}
use Rattle.text.proofs.put.put_numbers.Given as goal

abbrev pub invariant-loop-value : goal.invariant-loop-value
invariant-loop-value l = Put l.initial.out l.at (tabbed_to l.values l.value-index) l.out l.p
