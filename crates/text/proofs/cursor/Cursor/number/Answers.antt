-- `text::cursor::Cursor::number` meets its contract: the first byte decides what may follow. Assumes nothing.
use native.Mathlib.Omega.{arith}
use mathlib.Core.Path.{sym, ap, ◌∙◌}
use Rattle.text.specs.Numbers.{is_digit}
use Rattle.text.specs.Cursors.{on_number, digits_at, number_at}
use Rattle.text.proofs.Scanning.{number_none, number_no_digit, number_zero, number_digits}
use Rattle.text.proofs.Answers.{number_answer, number_refusal}
use Rattle.text.proofs.cursor.Cursor.number.Goals as goal

pub returns-then-text-at : goal.returns-then-text-at
unfolding number_at
returns-then-text-at c = number_refusal _ _ (number_none _ _ c.if-text-at.true) c.wrong.ensures

pub returns-then-not-is_ascii_digit : goal.returns-then-not-is_ascii_digit
unfolding number_at is_digit
returns-then-not-is_ascii_digit c = number_refusal _ _
    (number_no_digit _ _ c.if-text-at.false
    (sym c.is_ascii_digit.ensures.value ∙ c.if-not-is_ascii_digit.true))
    c.wrong-then-not-is_ascii_digit.ensures

pub returns-then-first-eq48 : goal.returns-then-first-eq48
unfolding number_at is_digit
returns-then-first-eq48 c = number_answer _ _
    (number_zero _ _ c.if-text-at.false
    (sym c.is_ascii_digit.ensures.value ∙ c.if-not-is_ascii_digit.false) c.if-first-eq48.true)
    (omega arith)

pub returns : goal.returns
unfolding number_at digits_at is_digit
returns c = c.digits.ensures ∙
    ap (on_number _ _)
    (number_digits _ _ c.if-text-at.false
    (sym c.is_ascii_digit.ensures.value ∙ c.if-not-is_ascii_digit.false)
    c.if-first-eq48.false)
