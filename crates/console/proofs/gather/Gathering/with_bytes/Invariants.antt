-- `console::gather::Gathering::with_bytes` meets its contract: at each turn the bytes before it have joined the line.
-- Assumes nothing.
use Rattle.console.specs.Gathered.{gathering}
use Rattle.console.proofs.Joining.{Joining}
use Rattle.console.proofs.gather.Gathering.with_bytes.Given as goal

abbrev pub invariant-loop-byte : goal.invariant-loop-byte
invariant-loop-byte l = Joining (gathering l.initial.held l.initial.count l.lines) l.bytes l.held l.count l.byte-index
