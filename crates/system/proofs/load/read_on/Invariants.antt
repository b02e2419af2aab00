-- `system::load::read_on` meets its contract, and ends: each read fills more of the buffer, or is the last. Assumes
-- nothing.
use Prim.Native.Nat.{◌≤◌}
use mathlib.Core.Path.{◌≡◌}
use lib.ListN.{length}
use Rattle.ledger.specs.Reads.{descriptor_of}
use Rattle.ledger.specs.Ledger.{Enters}
use Rattle.system.proofs.Loading.{left}
use Rattle.system.proofs.Loading.{Head}
use Rattle.system.proofs.load.read_on.Given as goal

abbrev pub invariant-loop-reads : goal.invariant-loop-reads
invariant-loop-reads l = (l.reads.done ≤ length l.buffer) × (length l.buffer ≡ length l.initial.buffer) × Enters (Head (descriptor_of l.from) l.buffer l.reads) l.initial.ledger l.ledger

abbrev pub decreases-loop-reads : goal.decreases-loop-reads
decreases-loop-reads l = left (length l.buffer) l.reads
