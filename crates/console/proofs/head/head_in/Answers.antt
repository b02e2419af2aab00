-- `console::head::head_in` meets its contract: the length is looked at first, then the line. Assumes nothing.
use mathlib.Core.Path.{sym, ◌∙◌}
use Rattle.text.proofs.LineViews.{whole_next, whole_refused}
use Rattle.console.proofs.Heads.{kept, dropped, long_head, other_head, head_of_numbers}
use Rattle.console.proofs.head.head_in.Goals as goal

pub returns-then-line-gt-MOST_BYTES : goal.returns-then-line-gt-MOST_BYTES
returns-then-line-gt-MOST_BYTES c = long_head _ c.if-line-gt-MOST_BYTES.true

pub returns-in_err-read : goal.returns-in_err-read
returns-in_err-read c = let none = dropped _ (sym c.ok.ensures.value ∙ c.in_err-read.was) in
    rw c.from_residual.ensures
    (other_head _ c.if-line-gt-MOST_BYTES.false (whole_refused _ _ _ _ (sym c.whole.ensures ∙ none.1)).0)

pub returns : goal.returns
returns c = let said = kept _ (sym c.ok.ensures.value ∙ c.in_ok-read.was) in
    let read = whole_next _ _ _ _ (sym c.whole.ensures ∙ said) in
    c.head_of.ensures ∙ head_of_numbers _ c.if-line-gt-MOST_BYTES.false read.read read.holds
