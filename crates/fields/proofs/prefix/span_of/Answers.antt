-- `fields::prefix::span_of` meets its contract: a shift to the right divides, and none is past the width.
use Rattle.fields.specs.Words.{address_bits}
use Rattle.fields.proofs.Prefixes.{shifted_span}
use Rattle.fields.proofs.prefix.span_of.Goals as goal

pub returns : goal.returns
returns c = rw c.min.ensures (shifted_span address_bits _)
