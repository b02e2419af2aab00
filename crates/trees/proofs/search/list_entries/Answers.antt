-- `trees::search::list_entries` meets its contract: where the room may not hold every match they are counted first, and
-- too little room is refused; else they are stored. Assumes nothing.
use Rattle.trees.specs.Answers.{Found}
use Prim.Native.Nat.{ℕ}
use native.Mathlib.Omega.{arith}
use mathlib.Core.Path.{◌≡◌, refl, ap}
use mathlib.Core.List.{[], ◌∷◌, ◌++◌}
use lib.ListN.{length}
use Rattle.facts.proofs.Setting.{none_before}
use Rattle.facts.proofs.Filling.{keep_at_most}
use Rattle.refusals.specs.Paper.{success}
use Rattle.refusals.proofs.Rooms.{kept_short, kept_listed}
use Rattle.rules.specs.Matching.{matches}
use Rattle.trees.specs.TreeAll.{paper}
use Rattle.trees.proofs.search.list_entries.Goals as goal
use Rattle.trees.proofs.search.list_entries.Goals.{After-store_entries-needed}

-- counting on no room leaves the lent words as found
as-found :
    (c : goal.After-store_entries-needed) →
    let out = c.args.out.now in
    c.store_entries-needed.new.out ++ out ≡ out
as-found c =
    let out = c.args.out.now in
    none_before c.store_entries-needed.new.out out c.store_entries-needed.auto.out

-- how many were found, on paper
found : {n m seen k : ℕ} → n ≡ m → paper (Found n seen k) ≡ success (seen ∷ k ∷ m ∷ [])
found {seen = seen} {k = k} e = ap (λ (x : ℕ). success (seen ∷ k ∷ x ∷ [])) e

pub returns-then-compared-out : goal.returns-then-compared-out
returns-then-compared-out c = let s = c.args in
    let most = keep_at_most (matches s.rules.now s.header.now) s.leaf.now in
    let k = c.store_entries.ensures in
    kept_listed k refl (omega (arith, most, c.if-compared-out.true)) (found k.counts)

pub returns-then-out-needed : goal.returns-then-out-needed
returns-then-out-needed c = kept_short c.store_entries-needed.ensures (as-found (goal.at.returns-then-out-needed c).After-store_entries-needed) c.if-out-needed.true refl

pub returns : goal.returns
returns c = let k = c.store_entries-2.ensures in
    let count = c.store_entries-needed.ensures.counts in
    kept_listed k (as-found (goal.at.returns c).After-store_entries-needed) (omega (arith, ap length (as-found (goal.at.returns c).After-store_entries-needed), count, c.if-out-needed.false))
    (found k.counts)
