-- `fields::prefix::prefix_meets` meets its contract: the two tests are those of `prefix_meets`, in its order, and the
-- last word of the prefix is counted in 64 bits.
use native.Mathlib.Omega.{arith}
use borrow.Author.Tests.{lt-leb}
use mathlib.Core.Path.{◌∙◌}
use Rattle.fields.specs.Words.{address_bits}
use Rattle.fields.proofs.Prefixes.{span_pos, span_at_most, ends_before, end_decides}
use Rattle.fields.proofs.prefix.prefix_meets.Goals as goal

pub overflow_add-result : goal.overflow_add-result
overflow_add-result c = let most = span_at_most address_bits c.args.len in
    record { fits = omega (arith, c.from-then-address-to.ensures, c.span_of.ensures, most) }

pub overflow_sub-result : goal.overflow_sub-result
overflow_sub-result c = omega (arith, c.span_of.ensures, span_pos address_bits c.args.len)

pub returns-then-address-to : goal.returns-then-address-to
returns-then-address-to c = end_decides _ _ _ _ _ c.if-address-to.true c.from.ensures
    c.from-then-address-to.ensures c.span_of.ensures

pub returns-else-address-to : goal.returns-else-address-to
returns-else-address-to c = lt-leb _ _ c.if-address-to.false ∙ ends_before _ _ _ _ _ c.if-address-to.false
