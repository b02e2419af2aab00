-- `text::put::put_bytes` meets its contract: at each turn the bytes before it are put. Assumes nothing.
use lib.ListN.{take}
use Rattle.text.specs.Puts.{Put}
use Rattle.text.proofs.put.put_bytes.Given as goal

abbrev pub invariant-loop-byte : goal.invariant-loop-byte
invariant-loop-byte l = Put l.initial.out l.at (take l.byte-index l.word) l.out l.p
