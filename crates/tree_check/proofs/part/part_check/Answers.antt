-- `tree_check::part::part_check` meets its contract: the list and the sizes are looked at first, then the number of
-- rules, then the words, and then the root's part so far decides. Assumes nothing.
use Prim.Native.Nat.{ℕ}
use native.Mathlib.Omega.{arith}
use mathlib.Core.Bool.{true}
use mathlib.Core.Path.{◌≡◌, sym, ap, ◌∙◌}
use mathlib.Core.List.{List}
use Rattle.tree_check.specs.Whole.{most_cuts}
use Rattle.tree_check.specs.Preorder.{preorder_of}
use Rattle.tree_check.proofs.PartChecks.{so_spelt, early_refused, count_refused, words_refused, root_decides}
use Rattle.refusals.proofs.Passing.{passed}
use Rattle.tree_check.specs.TreeCheck.{part_verdict}
use Rattle.fields.specs.Boxes.{root_box}
use Rattle.tree_check.proofs.part.part_check.Goals as goal
use Rattle.tree_check.proofs.part.part_check.Goals.{After-part_of}

-- the root's part so far is looked at
looked :
    (c : goal.After-part_of) →
    let a = c.args in
    c.part_of.result ≡ preorder_of true most_cuts a.rules.now a.nodes.now a.pool.now root_box 0
looked c =
    let a = c.args in
    c.part_of.ensures ∙
    ap (λ (b : List (List ℕ)). preorder_of true most_cuts a.rules.now a.nodes.now a.pool.now b 0) c.root_box.ensures

pub returns-then-count-rules : goal.returns-then-count-rules
returns-then-count-rules c = count_refused _ _ _ _ (sym c.list_and_sizes.ensures ∙ c.in_ok-list_and_sizes.was)
    c.if-count-rules.true

pub part_of-requires : goal.part_of-requires
part_of-requires c = let a = c.args in
    let spelt = sym c.spelt_verdict.ensures ∙ c.in_ok-spelt_verdict.was in
    (so_spelt a.rules.now _ _ c.if-count-rules.false spelt, omega arith)

pub returns-in_err-list_and_sizes : goal.returns-in_err-list_and_sizes
returns-in_err-list_and_sizes c = rw (passed _ c.from_residual.ensures.1)
    (early_refused _ _ _ _ (sym c.list_and_sizes.ensures ∙ c.in_err-list_and_sizes.was))

pub returns-in_err-spelt_verdict : goal.returns-in_err-spelt_verdict
returns-in_err-spelt_verdict c = rw (passed _ c.from_residual-in_err-spelt_verdict.ensures.1)
    (words_refused _ _ _ _ (sym c.list_and_sizes.ensures ∙ c.in_ok-list_and_sizes.was)
    c.if-count-rules.false (sym c.spelt_verdict.ensures ∙ c.in_err-spelt_verdict.was))

pub returns-in_err-part : goal.returns-in_err-part
returns-in_err-part c = rw (passed _ c.from_residual-in_err-part.ensures.1)
    (root_decides _ _ _ _ (sym c.list_and_sizes.ensures ∙ c.in_ok-list_and_sizes.was)
    c.if-count-rules.false (sym c.spelt_verdict.ensures ∙ c.in_ok-spelt_verdict.was)
    (looked (goal.at.returns-in_err-part c).After-part_of) (sym (ap (part_verdict _) c.in_err-part.was)))

pub returns : goal.returns
returns c = root_decides _ _ _ _ (sym c.list_and_sizes.ensures ∙ c.in_ok-list_and_sizes.was)
    c.if-count-rules.false (sym c.spelt_verdict.ensures ∙ c.in_ok-spelt_verdict.was)
    (looked (goal.at.returns c).After-part_of) (c.end_verdict.ensures ∙ sym (ap (part_verdict _) c.in_ok-part.was))
