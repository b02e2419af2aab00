-- `trees::search::at_leaf` meets its contract: the tests are those of `leaf_verdict`, in its order. Assumes nothing.
use Rattle.trees.proofs.Reaching.{leaf_past, leaf_unknown, leaf_known}
use Rattle.trees.proofs.search.at_leaf.Goals as goal

pub returns-then-pool-start : goal.returns-then-pool-start
returns-then-pool-start c = leaf_past _ _ _ _ _ c.node_word-start.ensures.is c.node_word-count.ensures.is
    c.if-pool-start.true

pub returns-then-not-all_under : goal.returns-then-not-all_under
returns-then-not-all_under c = leaf_unknown _ _ _ _ _ c.node_word-start.ensures.is c.node_word-count.ensures.is
    c.if-pool-start.false c.all_under.ensures c.if-not-all_under.true

pub returns : goal.returns
returns c = leaf_known _ _ _ _ _ c.node_word-start.ensures.is c.node_word-count.ensures.is
    c.if-pool-start.false c.all_under.ensures c.if-not-all_under.false
