-- `text::cursor::Cursor::number_behind` meets its contract: the separator's test, then the number. Assumes nothing.
use mathlib.Core.Path.{sym, ap, ◌∙◌}
use Rattle.text.specs.Cursors.{on_number, number_at, behind_at}
use Rattle.text.proofs.Scanning.{behind_none, behind_other, behind_number}
use Rattle.text.proofs.Answers.{number_refusal}
use Rattle.text.proofs.cursor.Cursor.number_behind.Goals as goal

pub returns-then-text-at : goal.returns-then-text-at
unfolding behind_at
returns-then-text-at c = number_refusal _ _ (behind_none _ _ _ c.if-text-at.true) c.wrong.ensures

pub returns-then-text-at-2 : goal.returns-then-text-at-2
unfolding behind_at
returns-then-text-at-2 c = number_refusal _ _ (behind_other _ _ _ c.if-text-at.false c.if-text-at-2.true)
    c.wrong-then-text-at-2.ensures

pub returns : goal.returns
unfolding behind_at number_at
returns c = c.number.ensures ∙
    ap (on_number _ _) (sym (behind_number _ _ _ c.if-text-at.false c.if-text-at-2.false))
