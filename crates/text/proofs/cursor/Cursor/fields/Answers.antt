-- `text::cursor::Cursor::fields` meets its contract: the word, then the numbers. Assumes nothing.
use mathlib.Core.Path.{sym, ◌∙◌}
use Rattle.refusals.proofs.Passing.{passed}
use Rattle.text.proofs.Places.{within_in}
use Rattle.text.proofs.Views.{word_next, word_refused, fields_of_marks, fields_of_none}
use Rattle.text.proofs.cursor.Cursor.fields.Goals as goal

pub word-requires : goal.word-requires
word-requires c = rw c.within.ensures (within_in _ _)

pub numbers-requires : goal.numbers-requires
numbers-requires c = (word_next _ _ _ (sym c.word.ensures ∙ c.in_ok-word.was)).within

pub returns : goal.returns
returns c = c.numbers.ensures ∙
    fields_of_marks _ _ _ _ c.within.ensures
    (word_next _ _ _ (sym c.word.ensures ∙ c.in_ok-word.was))

pub returns-in_err-word : goal.returns-in_err-word
returns-in_err-word c = let no = word_refused _ _ _ (sym c.word.ensures ∙ c.in_err-word.was) in
    rw (passed _ c.from_residual.ensures.1) (fields_of_none _ _ _ _ c.within.ensures no.0 no.1)
