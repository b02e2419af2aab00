-- `fields::prefix::prefix_last` meets its contract: the last word of the range is counted in 64 bits, and the last word
-- of all takes its place where it is over that.
use borrow.Author.Rules.{rules}
use Rattle.fields.specs.Prefixes.{prefix_last}
use native.Mathlib.Omega.{arith}
use Rattle.fields.specs.Words.{address_bits}
use Rattle.fields.proofs.Prefixes.{span_pos, span_at_most}
use Rattle.fields.proofs.prefix.prefix_last.Goals as goal

pub overflow_add-last : goal.overflow_add-last
overflow_add-last c = let most = span_at_most address_bits c.args.len in
    record { fits = omega (arith, c.from.ensures, c.span_of.ensures, most) }

pub overflow_sub-last : goal.overflow_sub-last
overflow_sub-last c = omega (arith, c.span_of.ensures, span_pos address_bits c.args.len)

pub returns : goal.returns
unfolding prefix_last
returns c = search rules
