-- `text::cursor::Cursor::numbers` meets its contract: at each turn the numbers before it are held. Assumes nothing.
use mathlib.Core.Path.{sym, ◌∙◌}
use Rattle.refusals.proofs.Passing.{passed}
use Rattle.text.specs.Cursors.{marks_at}
use Rattle.text.proofs.Answers.{fields_answer, fields_refusal}
use Rattle.text.proofs.Behind.{behind_value, behind_refused}
use Rattle.text.proofs.Behind.{marks_step, marks_bad, marks_last}
use Rattle.text.proofs.cursor.Cursor.numbers.Goals as goal

pub returns-in_err-v : goal.returns-in_err-v
unfolding marks_at
returns-in_err-v c = let no = behind_refused _ _ _ (sym c.number_behind.ensures ∙ c.in_err-v.was) in
    rw (passed _ c.from_residual.ensures.1)
    (fields_refusal _ _ (marks_bad c.loop-i.invariant c.loop-i-test.true no.0) no.1)

pub loop-i-preserved : goal.loop-i-preserved
loop-i-preserved c = marks_step c.loop-i.invariant c.loop-i-test.true
    (behind_value _ _ _ (sym c.number_behind.ensures ∙ c.in_ok-v.was)) c.store.ensures

pub returns : goal.returns
unfolding marks_at
returns c = let k = c.loop-i.invariant in fields_answer _ _ (marks_last k c.loop-i-test.false) k.within k.held
