-- `console::feed::last_reply` meets its contract: whether a line is begun decides. Assumes nothing.
use native.Mathlib.Omega.{arith}
use mathlib.Core.Path.{ap}
use lib.ListN.{length}
use Rattle.text.proofs.Said.{said_nothing, said_same}
use Rattle.console.proofs.Gathering.{last_none, last_part}
use Rattle.console.proofs.feed.last_reply.Goals as goal

pub returns-then-gathering-eq0 : goal.returns-then-gathering-eq0
returns-then-gathering-eq0 c = let none = last_none _ c.if-gathering-eq0.true in
    record { said = said_same none (said_nothing _); short = omega (arith, ap length none) }

pub returns : goal.returns
returns c = let part = last_part _ c.if-gathering-eq0.false in
    record {
      said = said_same part c.refused_line.ensures.said;
      short = omega (arith, ap length part, c.refused_line.ensures.short);
    }
