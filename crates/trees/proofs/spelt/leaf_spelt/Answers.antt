-- `trees::spelt::leaf_spelt` meets its contract: the tests are those of `leaf_spelt`, in its order. Assumes nothing.
use mathlib.Core.Path.{◌≡◌, sym, ap, ◌∙◌}
use Rattle.facts.specs.Lists.{all_under}
use Rattle.trees.specs.Words.{start_of}
use Rattle.trees.specs.Spelt.{counts_below}
use Rattle.trees.proofs.LeafSpelling.{start_wrong, count_wrong, end_wrong, entries_decide}
use Rattle.trees.proofs.Spelling.{part_is_entries}
use Rattle.trees.proofs.spelt.leaf_spelt.Goals as goal
use Rattle.trees.proofs.spelt.leaf_spelt.Goals.{Else-start-sum}

-- the start that was read is the sum of the counts below
sum_is :
    (c : goal.Else-start-sum) →
    let s = c.args in
    start_of s.nodes.now s.i ≡ counts_below s.nodes.now s.i
sum_is c =
    sym c.node_word-start.ensures.is ∙ c.if-start-sum.false ∙ c.requires.1

pub returns-then-start-sum : goal.returns-then-start-sum
returns-then-start-sum c = start_wrong _ _ _ _ (λ e. c.if-start-sum.true (c.node_word-start.ensures.is ∙ e ∙ sym c.requires.1))

pub returns-then-rules-count : goal.returns-then-rules-count
returns-then-rules-count c = count_wrong _ _ _ _ (sum_is (goal.at.returns-then-rules-count c).Else-start-sum) (rw c.node_word-count.ensures.is at c.if-rules-count.true)

pub returns-then-pool-start : goal.returns-then-pool-start
returns-then-pool-start c = let start = c.node_word-start.ensures.is in
    let count = c.node_word-count.ensures.is in
    end_wrong _ _ _ _ (sum_is (goal.at.returns-then-pool-start c).Else-start-sum) (rw count at c.if-rules-count.false) (rw (start, count) at c.if-pool-start.true)

pub returns : goal.returns
returns c = let start = c.node_word-start.ensures.is in
    let count = c.node_word-count.ensures.is in
    entries_decide _ _ _ _ (sum_is (goal.at.returns c).Else-start-sum) (rw count at c.if-rules-count.false) (rw (start, count) at c.if-pool-start.false)
    (c.all_under.ensures ∙ ap (all_under _) (part_is_entries _ _ _ _ _ start count))
