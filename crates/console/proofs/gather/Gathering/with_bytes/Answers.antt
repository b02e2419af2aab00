-- `console::gather::Gathering::with_bytes` meets its contract: at each turn the bytes before it have joined the line.
-- Assumes nothing.
use Rattle.console.proofs.Joining.{joining_first, joining_step, joining_over, joining_last}
use Rattle.console.proofs.gather.Gathering.with_bytes.Goals as goal

pub loop-byte-init : goal.loop-byte-init
loop-byte-init c = joining_first _ _ c.requires

pub returns-then-count-ge-MOST_BYTES : goal.returns-then-count-ge-MOST_BYTES
returns-then-count-ge-MOST_BYTES c =
    joining_over c.loop-byte.invariant c.loop-byte-test.true c.if-count-ge-MOST_BYTES.true

pub loop-byte-preserved : goal.loop-byte-preserved
loop-byte-preserved c = joining_step c.loop-byte.invariant c.loop-byte-test.true c.if-count-ge-MOST_BYTES.false

pub returns : goal.returns
returns c = joining_last c.loop-byte.invariant c.loop-byte-test.false
