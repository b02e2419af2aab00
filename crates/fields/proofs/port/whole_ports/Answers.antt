-- `fields::port::whole_ports` meets its contract: a range that begins at 0 is judged by its end.
use borrow.Author.Tests.{eq-eqb, ne_eqb}
use Rattle.fields.specs.Ports.{whole_ports}
use Rattle.fields.proofs.port.whole_ports.Goals as goal

pub returns-then-low-eq0 : goal.returns-then-low-eq0
unfolding whole_ports
returns-then-low-eq0 c = simp (eq-eqb _ _ c.if-low-eq0.true)

pub returns-else-low-eq0 : goal.returns-else-low-eq0
unfolding whole_ports
returns-else-low-eq0 c = simp (ne_eqb _ _ c.if-low-eq0.false)
