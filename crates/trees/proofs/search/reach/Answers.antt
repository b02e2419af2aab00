-- `trees::search::reach` meets its contract: the header decides first, then the walk, then the leaf. Assumes nothing.
use mathlib.Core.Path.{◌≡◌, sym, ◌∙◌}
use Rattle.refusals.specs.Verdict.{Fine}
use Rattle.refusals.proofs.Passing.{passed}
use Rattle.fields.specs.Headers.{header_verdict}
use Rattle.fields.proofs.Headers.{legal_iff}
use Rattle.trees.proofs.Reaching.{reach_header, reach_refused, reach_leaf, leaf_there}
use Rattle.trees.proofs.search.reach.Goals as goal
use Rattle.trees.proofs.search.reach.Goals.{In_ok-header_verdict}

-- a header that is not refused is fine
legal :
    (c : goal.In_ok-header_verdict) →
    header_verdict c.args.header.now ≡ Fine
legal c = sym c.header_verdict.ensures ∙ c.in_ok-header_verdict.was

pub walk_to-requires : goal.walk_to-requires
walk_to-requires c = ((legal_iff _).0 (sym c.header_verdict.ensures ∙ c.in_ok-header_verdict.was)).0

pub at_leaf-requires : goal.at_leaf-requires
at_leaf-requires c = leaf_there _ _ (sym c.in_ok-leaf.was ∙ c.walk_to.ensures)

pub returns-in_err-header_verdict : goal.returns-in_err-header_verdict
returns-in_err-header_verdict c = rw (passed _ c.from_residual.ensures.1)
    (reach_header _ _ _ _ (sym c.header_verdict.ensures ∙ c.in_err-header_verdict.was))

pub returns-in_err-leaf : goal.returns-in_err-leaf
returns-in_err-leaf c = rw (passed _ c.from_residual-in_err-leaf.ensures.1)
    (reach_refused _ _ _ _ (legal (goal.at.returns-in_err-leaf c).In_ok-header_verdict) (sym c.in_err-leaf.was ∙ c.walk_to.ensures))

pub returns : goal.returns
returns c = reach_leaf _ _ _ _ (legal (goal.at.returns c).In_ok-header_verdict) (sym c.in_ok-leaf.was ∙ c.walk_to.ensures)
    c.at_leaf.ensures
