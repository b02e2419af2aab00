-- `text::cursor::Cursor::digits` meets its contract: at each turn the digits before it make the value. Assumes nothing.
use native.Mathlib.Omega.{arith}
use mathlib.Core.Bool.{true}
use mathlib.Core.Path.{◌≡◌, sym, ◌∙◌}
use lib.ListN.{length, get_or}
use Rattle.text.specs.Numbers.{is_digit}
use Rattle.text.specs.Cursors.{digits_at}
use Rattle.text.proofs.Scanning.{digits_step, digits_over, digits_stop, digits_spent}
use Rattle.text.proofs.Answers.{number_answer, number_refusal}
use Rattle.text.proofs.cursor.Cursor.digits.Goals as goal
use Rattle.text.proofs.cursor.Cursor.digits.Goals.{Else-not-is_ascii_digit}

-- past the test, the byte is a digit
digit : (c : goal.Else-not-is_ascii_digit) → is_digit (get_or c.args.text.now c.loop-at.at 0) ≡ true
unfolding is_digit
digit c = sym c.is_ascii_digit.ensures.value ∙ c.if-not-is_ascii_digit.false

pub returns-then-not-is_ascii_digit : goal.returns-then-not-is_ascii_digit
unfolding digits_at is_digit
returns-then-not-is_ascii_digit c = let here = c.loop-at.invariant in
    let no_digit = sym c.is_ascii_digit.ensures.value ∙ c.if-not-is_ascii_digit.true in
    number_answer _ _ (digits_stop here c.loop-at-test.true no_digit) here.within

pub returns-then-from-value : goal.returns-then-from-value
unfolding digits_at
returns-then-from-value c = number_refusal _ _
    (digits_over c.loop-at.invariant c.loop-at-test.true
    (digit (goal.at.returns-then-from-value c).Else-not-is_ascii_digit) (omega arith))
    c.wrong.ensures

pub loop-at-preserved : goal.loop-at-preserved
loop-at-preserved c =
    rw c.from.ensures
    (digits_step c.loop-at.invariant c.loop-at-test.true
    (digit (goal.at.loop-at-preserved c).Else-not-is_ascii_digit) (omega arith))

pub returns : goal.returns
unfolding digits_at
returns c =
    let k = c.loop-at.invariant in
    let e : c.loop-at.at ≡ length c.args.text.now = omega (arith, k.within) in
    rw (← e) (number_answer _ _ (digits_spent k c.loop-at-test.false) k.within)
