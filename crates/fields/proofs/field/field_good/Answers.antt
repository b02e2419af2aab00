-- `fields::field::field_good` meets its contract: each kind of field has its own test. Assumes nothing.
use Rattle.fields.proofs.field.field_good.Goals as goal

pub returns-in-Prefix : goal.returns-in-Prefix
returns-in-Prefix c = rw c.in-Prefix.is c.prefix_good.ensures

pub returns-in-Range : goal.returns-in-Range
returns-in-Range c = rw c.in-Range.is c.range_good.ensures

pub returns-in-Ports : goal.returns-in-Ports
returns-in-Ports c = rw c.in-Ports.is c.range_good-in-Ports.ensures
