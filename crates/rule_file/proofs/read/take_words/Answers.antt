-- `rule_file::read::take_words` meets its contract: the list decides first, then the room, and then the words are
-- stored. Assumes nothing.
use mathlib.Core.Path.{refl, sym, ◌∙◌}
use Rattle.refusals.proofs.Order.{then_refused}
use Rattle.refusals.proofs.Passing.{passed}
use Rattle.refusals.proofs.Promises.{writes_refused, writes_after}
use Rattle.refusals.proofs.Rooms.{counted_short, counted_put}
use Rattle.rule_file.proofs.read.take_words.Goals as goal

pub returns-then-rules-words : goal.returns-then-rules-words
returns-then-rules-words c = let fine = sym c.list_verdict.ensures ∙ c.in_ok-list_verdict.was in
    writes_after fine (counted_short refl c.if-rules-words.true refl refl)

pub returns-in_err-list_verdict : goal.returns-in_err-list_verdict
returns-in_err-list_verdict c = let refused = sym c.list_verdict.ensures ∙ c.in_err-list_verdict.was in
    rw (passed _ c.from_residual.ensures.1) (writes_refused (then_refused _ refused) refl refl)

pub returns : goal.returns
returns c = let fine = sym c.list_verdict.ensures ∙ c.in_ok-list_verdict.was in
    writes_after fine (counted_put c.if-rules-words.false refl c.store_all.ensures)
