-- `fields::field::field_meets` meets its contract: a prefix is met as the range that it stands for, and so are all
-- ports. Assumes nothing.
use Rattle.fields.specs.Prefixes.{prefix_ends, prefix_meets}
use Rattle.fields.proofs.field.field_meets.Goals as goal

pub returns-in-Prefix : goal.returns-in-Prefix
unfolding prefix_ends prefix_meets
returns-in-Prefix c = rw c.in-Prefix.is c.prefix_meets.ensures

pub returns-in-Range : goal.returns-in-Range
returns-in-Range c = rw c.in-Range.is c.ranges_meet.ensures

pub returns-in-Ports : goal.returns-in-Ports
returns-in-Ports c = rw (c.in-Ports.is, ← c.ports_end.ensures) c.ranges_meet-in-Ports.ensures
