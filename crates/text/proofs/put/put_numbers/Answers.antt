-- `text::put::put_numbers` meets its contract: at each turn the numbers before it are put. Assumes nothing.
use native.Mathlib.Omega.{arith}
use Rattle.text.proofs.Puts.{put_none, put_then, put_same}
use Rattle.text.proofs.Tabbed.{tabbed_none, tabbed_more, tabbed_all}
use Rattle.text.proofs.put.put_numbers.Goals as goal

pub loop-value-init : goal.loop-value-init
loop-value-init c = put_same (tabbed_none _) (put_none _ _ (omega arith))

pub loop-value-preserved : goal.loop-value-preserved
loop-value-preserved c = put_same (tabbed_more _ _ c.loop-value-test.true)
    (put_then (omega arith) c.loop-value.invariant c.put_behind-p.ensures)

pub returns : goal.returns
returns c = put_same (tabbed_all _ _ c.loop-value-test.false) c.loop-value.invariant
