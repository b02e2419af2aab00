-- The part check: whether a compile may go on from a part, a tree so far. Definitions only.
--   so_far_verdict rs n nodes pool  of a part that was made for n rules: 1, 2, 11, then 5; then 6 at node 0 where n is
--                                   not the list's number of rules; then *spelt*, the preorder walk so far, and 8
use Rattle.std.specs.Prelude.{ℕ, true, List, eqb}
use Rattle.refusals.specs.declared.Refusal.TheVariants.{NodeWrong}
use Rattle.refusals.specs.Verdict.{Verdict}
use Rattle.refusals.specs.Order.{refuse_unless, ◌then◌}
use Rattle.fields.specs.Boxes.{root_box}
use Rattle.rules.specs.Words.{rule_count}
use Rattle.rules.specs.Good.{list_verdict}
use Rattle.trees.specs.Words.{node_count, size_verdict}
use Rattle.trees.specs.Spelt.{spelt_verdict}
use Rattle.tree_check.specs.Whole.{most_cuts}
use Rattle.tree_check.specs.Preorder.{preorder_of}
use Rattle.tree_check.specs.TreeCheck.{part_verdict}

unfoldable pub so_far_verdict : List ℕ → ℕ → List ℕ → List ℕ → Verdict
so_far_verdict rs n nodes pool =
    list_verdict rs then size_verdict nodes pool then refuse_unless (eqb n (rule_count rs)) (NodeWrong 0) then
    spelt_verdict (rule_count rs) nodes pool then
    part_verdict (node_count nodes) (preorder_of true most_cuts rs nodes pool root_box 0)
