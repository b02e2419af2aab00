-- `fields::port::ports_end` meets its contract: a whole range ends at the absent port. Assumes nothing.
use mathlib.Core.Path.{sym, ◌∙◌}
use Rattle.fields.proofs.Ports.{whole_end, other_end}
use Rattle.fields.proofs.port.ports_end.Goals as goal

pub returns-then-whole_ports : goal.returns-then-whole_ports
returns-then-whole_ports c = sym (whole_end _ _ (sym c.whole_ports.ensures ∙ c.if-whole_ports.true))

pub returns-else-whole_ports : goal.returns-else-whole_ports
returns-else-whole_ports c = sym (other_end _ _ (sym c.whole_ports.ensures ∙ c.if-whole_ports.false))
