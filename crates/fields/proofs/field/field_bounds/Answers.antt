-- `fields::field::field_bounds` meets its contract: a prefix ends at its last word, a range has its own ends, and
-- all ports end at the absent one. Assumes nothing.
use Rattle.fields.proofs.field.field_bounds.Goals as goal

pub returns-in-Prefix : goal.returns-in-Prefix
returns-in-Prefix c = rw (c.in-Prefix.is, ← c.prefix_last.ensures)

pub returns-in-Range : goal.returns-in-Range
returns-in-Range c = rw c.in-Range.is

pub returns-in-Ports : goal.returns-in-Ports
returns-in-Ports c = rw (c.in-Ports.is, ← c.ports_end.ensures)
