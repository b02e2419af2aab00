-- `trees::spelt::node_verdict` meets its contract: the tests are those of `node_verdict`, in its order. Assumes nothing.
use Prim.Native.Nat.{◌<◌}
use native.Mathlib.Omega.{arith}
use mathlib.Core.Path.{◌≡◌, sym, ◌∙◌}
use Rattle.trees.specs.Words.{leaf_mark, field_of}
use Rattle.trees.proofs.NodeSpelling.{first_wrong, child_fine, child_wrong, leaf_fine, leaf_wrong}
use Rattle.trees.proofs.spelt.node_verdict.Goals as goal
use Rattle.trees.proofs.spelt.node_verdict.Goals.{Else-first-lt-LEAF_MARK, Then-first-lt-LEAF_MARK}

-- a first word below the mark is a cut's
cut :
    (c : goal.Then-first-lt-LEAF_MARK) →
    let s = c.args in
    field_of s.nodes.now s.i < leaf_mark
cut c = rw c.node_word-first.ensures.is at c.if-first-lt-LEAF_MARK.true

-- what is no cut and not over the mark has the mark
mark :
    (c : goal.Else-first-lt-LEAF_MARK) →
    let s = c.args in
    field_of s.nodes.now s.i ≡ leaf_mark
mark c = omega (arith, c.node_word-first.ensures.is, c.if-first-lt-LEAF_MARK.false, c.if-first-gt-LEAF_MARK.false)

pub returns-then-first-gt-LEAF_MARK : goal.returns-then-first-gt-LEAF_MARK
returns-then-first-gt-LEAF_MARK c = first_wrong _ _ _ _ (rw c.node_word-first.ensures.is at c.if-first-gt-LEAF_MARK.true)

pub returns-then-node_word-nodes : goal.returns-then-node_word-nodes
returns-then-node_word-nodes c = child_fine _ _ _ _ (cut (goal.at.returns-then-node_word-nodes c).Then-first-lt-LEAF_MARK) (rw c.node_word.ensures.is at c.if-node_word-nodes.true)

pub returns-then-first-lt-LEAF_MARK : goal.returns-then-first-lt-LEAF_MARK
returns-then-first-lt-LEAF_MARK c = child_wrong _ _ _ _ (cut (goal.at.returns-then-first-lt-LEAF_MARK c).Then-first-lt-LEAF_MARK) (rw c.node_word.ensures.is at c.if-node_word-nodes.false)

pub returns-then-leaf_spelt : goal.returns-then-leaf_spelt
returns-then-leaf_spelt c = leaf_fine _ _ _ _ (mark (goal.at.returns-then-leaf_spelt c).Else-first-lt-LEAF_MARK) (sym c.leaf_spelt.ensures ∙ c.if-leaf_spelt.true)

pub returns : goal.returns
returns c = leaf_wrong _ _ _ _ (mark (goal.at.returns c).Else-first-lt-LEAF_MARK) (sym c.leaf_spelt.ensures ∙ c.if-leaf_spelt.false)
