-- `fields::port::ports_match` meets its contract: the low end is looked at first, then whether the port is absent, and
-- then the high end. Assumes nothing.
use mathlib.Core.Path.{sym, ◌∙◌}
use Rattle.fields.proofs.Ports.{below_matches_not, absent_matches, high_decides}
use Rattle.fields.proofs.port.ports_match.Goals as goal

pub returns-then-port-low : goal.returns-then-port-low
returns-then-port-low c = below_matches_not _ _ c.if-port-low.true

pub returns-then-port-eq-ABSENT_PORT : goal.returns-then-port-eq-ABSENT_PORT
returns-then-port-eq-ABSENT_PORT c = c.whole_ports.ensures ∙ sym (absent_matches _ _ c.if-port-eq-ABSENT_PORT.true)

pub returns : goal.returns
returns c = high_decides _ _ c.if-port-low.false c.if-port-eq-ABSENT_PORT.false
