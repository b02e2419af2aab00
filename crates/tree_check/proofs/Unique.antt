-- The paper tells the answers of the tree check apart, so its promise allows one result (`says_unique`).
use Rattle.std.specs.Prelude.{Err, Ok}
use mathlib.Core.Path.{◌≡◌, sym, ap, ◌∙◌}
use Rattle.refusals.specs.Promises.{Apart}
use Rattle.refusals.proofs.Unique.{on_paper_unique, refusal_not_success}
use Rattle.tree_check.specs.Said.{Accepted}
use Rattle.tree_check.specs.TreeCheck.{paper}

-- answers of the tree check
pub answer_apart : Apart paper
answer_apart (Err a) (Err b) e = ap Err (on_paper_unique a b e)
answer_apart (Err a) (Ok y) e = refusal_not_success e
answer_apart (Ok x) (Err b) e = refusal_not_success (sym e)
answer_apart (Ok x) (Ok y) e =
    let c : x.cuts ≡ y.cuts = cc in
    let l : x.longest ≡ y.longest = cc in
    ap (λ n. Accepted n x.longest) c ∙ ap (Accepted y.cuts) l
