-- `policy::line::verdict_line` meets its contract: a verdict that is fine has no line. Assumes nothing.
use native.Mathlib.Omega.{arith}
use mathlib.Core.Path.{sym, ap}
use lib.ListN.{length}
use Rattle.text.proofs.Said.{said_nothing, said_same}
use Rattle.policy.specs.Output.{verdict_line}
use Rattle.policy.proofs.line.verdict_line.Goals as goal

pub returns-in-Ok : goal.returns-in-Ok
returns-in-Ok c = let line = ap verdict_line (sym c.in-Ok.is) in
    record { said = said_same line (said_nothing _); short = omega (arith, ap length line) }

pub returns-in-Err : goal.returns-in-Err
returns-in-Err c = let line = ap verdict_line (sym c.in-Err.is) in
    let said = c.refused_line.ensures in
    record { said = said_same line said.said; short = omega (arith, ap length line, said.short) }
