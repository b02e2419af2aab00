-- `console::say::refused_line` meets its contract: it is counted, then the room decides, then it is put.
-- Assumes nothing.
use native.Mathlib.Omega.{arith}
use Rattle.text.proofs.Said.{said_short, said_put}
use Rattle.console.proofs.say.refused_line.Goals as goal

pub returns-then-out-needed : goal.returns-then-out-needed
returns-then-out-needed c =
    let few = c.put_refused-needed.ensures.1 in
    record {
      said = said_short (omega (arith, few)) c.put_refused-needed.ensures.0 c.put_refused-needed.auto.out
          c.if-out-needed.true;
      short = few;
    }

pub returns : goal.returns
returns c =
    let few = c.put_refused-needed.ensures.1 in
    record {
      said = said_put (omega (arith, few)) c.put_refused-needed.ensures.0 c.put_refused-needed.auto.out
          c.if-out-needed.false c.put_refused.ensures.0;
      short = few;
    }
