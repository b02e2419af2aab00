-- `tree_check::check::tree_check` meets its contract: the words are looked at first, then the root's part, and then its
-- end. Assumes nothing.
use Prim.Native.Nat.{ℕ}
use native.Mathlib.Omega.{arith}
use mathlib.Core.Path.{◌≡◌, sym, ap, ◌∙◌}
use mathlib.Core.List.{List}
use Rattle.refusals.proofs.Passing.{passed}
use Rattle.tree_check.specs.Whole.{most_cuts}
use Rattle.tree_check.specs.Preorder.{part_of}
use Rattle.tree_check.specs.TreeCheck.{root_part}
use Rattle.tree_check.proofs.Checks.{words_refused, words_fine_iff, part_decides}
use Rattle.tree_check.proofs.Checks.{judged_refused, judged_end, judged_accepted}
use Rattle.tree_check.proofs.check.tree_check.Goals as goal
use Rattle.tree_check.proofs.check.tree_check.Goals.{After-part_of}

-- the root's part is looked at
looked :
    (c : goal.After-part_of) →
    let a = c.args in
    c.part_of.result ≡ root_part a.rules.now a.nodes.now a.pool.now
unfolding root_part
looked c =
    let a = c.args in
    c.part_of.ensures ∙
    ap (λ (b : List (List ℕ)). part_of most_cuts a.rules.now a.nodes.now a.pool.now b 0) c.root_box.ensures

pub part_of-requires : goal.part_of-requires
part_of-requires c = (((words_fine_iff _ _ _).0 (sym c.words_verdict.ensures ∙ c.in_default.is)).2, omega arith)

pub returns-in-Err : goal.returns-in-Err
returns-in-Err c = words_refused _ _ _ (sym c.words_verdict.ensures ∙ c.in-Err.is)

pub returns-in_err-part : goal.returns-in_err-part
returns-in_err-part c = rw (passed _ c.from_residual.ensures.1)
    (part_decides _ _ _ (sym c.words_verdict.ensures ∙ c.in_default.is)
    (looked (goal.at.returns-in_err-part c).After-part_of) (judged_refused _ _ c.in_err-part.was))

pub returns-in_err-end_verdict : goal.returns-in_err-end_verdict
returns-in_err-end_verdict c = rw (passed _ c.from_residual-in_err-end_verdict.ensures.1)
    (part_decides _ _ _ (sym c.words_verdict.ensures ∙ c.in_default.is)
    (looked (goal.at.returns-in_err-end_verdict c).After-part_of)
    (judged_end _ _ c.in_ok-part.was (sym c.end_verdict.ensures ∙ c.in_err-end_verdict.was)))

pub returns : goal.returns
returns c = part_decides _ _ _ (sym c.words_verdict.ensures ∙ c.in_default.is)
    (looked (goal.at.returns c).After-part_of)
    (judged_accepted _ _ c.in_ok-part.was (sym c.end_verdict.ensures ∙ c.in_ok-end_verdict.was))
