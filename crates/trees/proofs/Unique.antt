-- The paper tells the answers of the tree search apart, so each promise allows one result and one state of the lent
-- words (`says_unique`, `writes_unique`).
use Rattle.std.specs.Prelude.{Ok, Err}
use mathlib.Core.Path.{◌≡◌, sym, ap, ◌∙◌}
use Rattle.refusals.specs.Promises.{Apart}
use Rattle.refusals.proofs.Unique.{on_paper_unique, refusal_not_success}
use Rattle.rules.specs.LineFirst.{hit_in}
use Rattle.rules.proofs.Unique.{hit_apart}
use Rattle.trees.specs.Answers.{Found, first_said}
use Rattle.trees.specs.TreeAll as all
use Rattle.trees.specs.TreeFirst as one

-- answers of the search for all matches
pub listed_apart : Apart all.paper
listed_apart (Err a) (Err b) e = ap Err (on_paper_unique a b e)
listed_apart (Err a) (Ok y) e = refusal_not_success e
listed_apart (Ok x) (Err b) e = refusal_not_success (sym e)
listed_apart (Ok x) (Ok y) e =
    let n : x.count ≡ y.count = cc in
    let v : x.visited ≡ y.visited = cc in
    let k : x.compared ≡ y.compared = cc in
    ap (λ i. Found i x.visited x.compared) n ∙ ap (λ i. Found y.count i x.compared) v ∙ ap (Found y.count y.visited) k

-- answers of the search for the first match
pub first_apart : Apart one.paper
first_apart (Err a) (Err b) e = ap Err (on_paper_unique a b e)
first_apart (Err a) (Ok y) e = refusal_not_success e
first_apart (Ok x) (Err b) e = refusal_not_success (sym e)
first_apart (Ok x) (Ok y) e =
    let v : x.visited ≡ y.visited = cc in
    let k : x.compared ≡ y.compared = cc in
    let h : hit_in x.hit ≡ hit_in y.hit = cc in
    ap (λ i. first_said i x.visited x.compared) (hit_apart x.hit y.hit h) ∙ ap (λ i. first_said y.hit i x.compared) v ∙
    ap (first_said y.hit y.visited) k
