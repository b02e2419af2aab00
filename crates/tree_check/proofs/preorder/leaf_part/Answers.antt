-- `tree_check::preorder::leaf_part` meets its contract: the rise is looked at first. Assumes nothing.
use Prim.Native.Nat.{ℕ}
use mathlib.Core.Path.{◌≡◌}
use lib.Dec.{ltb}
use Rattle.std.proofs.Common.{rules, tests}
use Rattle.std.proofs.lemmas.List.Sorted.{answers_always}
use Rattle.facts.specs.Lists.{rises}
use Rattle.tree_check.proofs.Leaves.{entries_fall, entries_rise}
use Rattle.tree_check.proofs.Sorted.{sorted_is_rising}
use Rattle.tree_check.proofs.preorder.leaf_part.Goals as goal
use Rattle.tree_check.proofs.preorder.leaf_part.Goals.{After-is_sorted_by}

-- the library's test is whether the entries rise
rising : (c : goal.After-is_sorted_by) → c.is_sorted_by.result ≡ rises 0 c.args.entries.now
rising c =
    sorted_is_rising _ _
    (c.is_sorted_by.ensures.cases (λ (x y : ℕ). ltb x y) (answers_always _ _ _ (λ f a r h k. search (rules, tests))))

pub returns-then-not-is_sorted_by : goal.returns-then-not-is_sorted_by
returns-then-not-is_sorted_by c =
    entries_fall _ _ _ _ (rising (goal.at.returns-then-not-is_sorted_by c).After-is_sorted_by)
    c.if-not-is_sorted_by.true

pub returns : goal.returns
returns c =
    entries_rise _ _ _ _ (rising (goal.at.returns c).After-is_sorted_by) c.if-not-is_sorted_by.false
    c.lack_of.ensures
