-- `policy::list::take_list` meets its contract: what the reader says of the text, with the words of each rule. Assumes
-- nothing.
use Rattle.refusals.proofs.Passing.{passed}
use mathlib.Core.Path.{sym}
use native.Mathlib.Omega.{arith}
use Rattle.policy.proofs.Listing.{list_refused, list_found, list_within, list_not_read, list_by}
use Rattle.policy.proofs.list.take_list.Goals as goal

pub returns-in_default : goal.returns-in_default
returns-in_default c = list_by _ _ (sym c.in_default.ensures) (list_not_read _)

pub overflow_mul-result : goal.overflow_mul-result
overflow_mul-result c = omega (arith, list_within _ c.rules_read.ensures c.in_ok-read.was)

pub returns-in_err-read : goal.returns-in_err-read
returns-in_err-read c = rw (passed _ c.from_residual.ensures.1)
    (list_by _ _ (sym c.in-Some.ensures) (list_refused _ c.rules_read.ensures c.in_err-read.was))

pub returns : goal.returns
returns c = list_by _ _ (sym c.in-Some.ensures) (list_found _ c.rules_read.ensures c.in_ok-read.was)
