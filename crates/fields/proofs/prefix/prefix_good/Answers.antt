-- `fields::prefix::prefix_good` meets its contract: the length is looked at first, and then whether the address ends in
-- as many zeros as it has bits past the length.
use borrow.Author.Tests.{lt-leb}
use mathlib.Core.Path.{◌∙◌}
use Rattle.fields.proofs.Prefixes.{long_not_good, zeros_past_good}
use Rattle.fields.proofs.prefix.prefix_good.Goals as goal

pub returns-then-len-le-ADDRESS_BITS : goal.returns-then-len-le-ADDRESS_BITS
returns-then-len-le-ADDRESS_BITS c = zeros_past_good _ _ _ c.if-len-le-ADDRESS_BITS.true

pub returns-else-len-le-ADDRESS_BITS : goal.returns-else-len-le-ADDRESS_BITS
returns-else-len-le-ADDRESS_BITS c = lt-leb _ _ c.if-len-le-ADDRESS_BITS.false ∙ long_not_good _ _ _ c.if-len-le-ADDRESS_BITS.false
