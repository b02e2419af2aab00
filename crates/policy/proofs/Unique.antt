-- The paper tells the answers of the policy's calls apart, so each promise allows one result and one state of the lent
-- words (`writes_unique`, `both_unique`).
use Rattle.std.specs.Prelude.{Err, Ok}
use mathlib.Core.Path.{◌≡◌, sym, ap, ◌∙◌}
use Rattle.refusals.specs.Promises.{Apart}
use Rattle.refusals.proofs.Unique.{on_paper_unique, refusal_not_success}
use Rattle.policy.specs.Said.{BegunWords, TakenWords}
use Rattle.policy.specs.TakeTree as tree
use Rattle.policy.specs.TakePart as part

-- answers for the tree of the tree file
pub taken_apart : Apart tree.paper
taken_apart (Err a) (Err b) e = ap Err (on_paper_unique a b e)
taken_apart (Err a) (Ok y) e = refusal_not_success e
taken_apart (Ok x) (Err b) e = refusal_not_success (sym e)
taken_apart (Ok x) (Ok y) e =
    let n : x.nodes ≡ y.nodes = cc in
    let p : x.pool ≡ y.pool = cc in
    ap (λ i. TakenWords i x.pool) n ∙ ap (TakenWords y.nodes) p

-- answers for the part of the part file
pub begun_apart : Apart part.paper
begun_apart (Err a) (Err b) e = ap Err (on_paper_unique a b e)
begun_apart (Err a) (Ok y) e = refusal_not_success e
begun_apart (Ok x) (Err b) e = refusal_not_success (sym e)
begun_apart (Ok x) (Ok y) e =
    let k : x.rules ≡ y.rules = cc in
    let n : x.nodes ≡ y.nodes = cc in
    let p : x.pool ≡ y.pool = cc in
    ap (λ i. BegunWords i x.nodes x.pool) k ∙ ap (λ i. BegunWords y.rules i x.pool) n ∙ ap (BegunWords y.rules y.nodes) p
