-- `policy::part::take_part` meets its contract: what the reader says of the text, with three words for each node. Assumes
-- nothing.
use Rattle.refusals.proofs.Passing.{passed}
use mathlib.Core.Path.{sym}
use native.Mathlib.Omega.{arith}
use Rattle.policy.proofs.PartTaking.{part_refused, part_found, part_within, part_not_read, part_by}
use Rattle.policy.proofs.part.take_part.Goals as goal

pub returns-in_default : goal.returns-in_default
returns-in_default c = part_by _ _ (sym c.in_default.ensures) (part_not_read _ _)

pub overflow_mul-result : goal.overflow_mul-result
overflow_mul-result c = omega (arith, part_within _ c.part_read.ensures c.in_ok-read.was)

pub returns-in_err-read : goal.returns-in_err-read
returns-in_err-read c = rw (passed _ c.from_residual.ensures.1)
    (part_by _ _ (sym c.in-Some.ensures) (part_refused _ c.part_read.ensures c.in_err-read.was))

pub returns : goal.returns
returns c = part_by _ _ (sym c.in-Some.ensures) (part_found _ c.part_read.ensures c.in_ok-read.was)
