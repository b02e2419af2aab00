-- `tree_file::node::entries_in` meets its contract: at each turn the entries before it are read and stored.
-- Assumes nothing.
use native.Mathlib.Omega.{arith}
use mathlib.Core.Path.{refl, sym, ◌∙◌}
use Rattle.refusals.proofs.Passing.{passed}
use Rattle.text.proofs.Behind.{behind_value, behind_refused}
use Rattle.text.proofs.LineViews.{end_next, end_refused}
use Rattle.tree_file.specs.NodeSteps.{EntriesRead}
use Rattle.tree_file.proofs.Entries.{left_first, left_bad, left_over, left_step}
use Rattle.tree_file.proofs.Entries.{left_more, left_last}
use Rattle.tree_file.proofs.node.entries_in.Goals as goal

pub loop-j-init : goal.loop-j-init
loop-j-init c = left_first _ _ _ _ _ _ c.requires.0

pub returns-in_err-entry : goal.returns-in_err-entry
returns-in_err-entry c = let bad = behind_refused _ _ _ (sym c.number_behind.ensures ∙ c.in_err-entry.was) in
    rw (passed _ c.from_residual.ensures.1)
    (EntriesRead.refuses (left_bad c.loop-j.invariant c.loop-j-test.true bad.0) bad.1)

pub returns-then-rules-wide : goal.returns-then-rules-wide
returns-then-rules-wide c = let read = behind_value _ _ _ (sym c.number_behind.ensures ∙ c.in_ok-entry.was) in
    EntriesRead.refuses
    (left_over c.loop-j.invariant c.loop-j-test.true read
    (omega (arith, c.wide.ensures, c.if-rules-wide.true)))
    c.wrong.ensures

pub loop-j-preserved : goal.loop-j-preserved
loop-j-preserved c = let read = behind_value _ _ _ (sym c.number_behind.ensures ∙ c.in_ok-entry.was) in
    left_step c.loop-j.invariant c.loop-j-test.true read
    (omega (arith, c.wide.ensures, c.if-rules-wide.false)) c.store.ensures

pub returns-in_err-next : goal.returns-in_err-next
returns-in_err-next c = let more = end_refused _ _ (sym c.end.ensures ∙ c.in_err-next.was) in
    rw (passed _ c.from_residual-in_err-next.ensures.1)
    (EntriesRead.refuses (left_more c.loop-j.invariant c.loop-j-test.false more.0) more.1)

pub returns : goal.returns
returns c = let none = end_next _ _ (sym c.end.ensures ∙ c.in_ok-next.was) in
    let l = c.loop-j.invariant in
    EntriesRead.stores l.ys (left_last l c.loop-j-test.false none.0)
    (omega (arith, l.size, l.upto)) refl none.1 l.stored
