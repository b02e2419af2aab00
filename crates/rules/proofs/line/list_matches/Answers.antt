-- `rules::line::list_matches` meets its contract: where the room may not hold every match they are counted first, and
-- too little room is refused; else they are stored. Assumes nothing.
use Rattle.std.specs.Prelude.{Ok}
use Prim.Native.Nat.{ℕ}
use native.Mathlib.Omega.{arith}
use mathlib.Core.Path.{◌≡◌, refl, ap}
use mathlib.Core.List.{[], ◌∷◌, ◌++◌}
use lib.ListN.{length}
use Rattle.facts.proofs.Setting.{none_before}
use Rattle.refusals.specs.Paper.{success}
use Rattle.refusals.proofs.Rooms.{kept_short, kept_listed}
use Rattle.rules.specs.LineAll.{paper}
use Rattle.rules.specs.Scan.{scanned}
use Rattle.rules.proofs.Searches.{scanned_at_most}
use Rattle.rules.proofs.line.list_matches.Goals as goal
use Rattle.rules.proofs.line.list_matches.Goals.{After-store_matches-needed}

-- counting on no room leaves the lent words as found
as-found :
    (c : goal.After-store_matches-needed) →
    let out = c.args.out.now in
    c.store_matches-needed.new.out ++ out ≡ out
as-found c =
    let out = c.args.out.now in
    none_before c.store_matches-needed.new.out out c.store_matches-needed.auto.out

-- how many were found, on paper
found : {n m : ℕ} → n ≡ m → paper (Ok n) ≡ success (m ∷ [])
found e = ap (λ (k : ℕ). success (k ∷ [])) e

pub returns-then-scan_count-out : goal.returns-then-scan_count-out
unfolding scanned
returns-then-scan_count-out c = let most = scanned_at_most c.args.rules.now c.args.header.now in
    let k = c.store_matches.ensures in
    kept_listed k refl (omega (arith, most, c.scan_count.ensures, c.if-scan_count-out.true))
    (found k.counts)

pub returns-then-out-needed : goal.returns-then-out-needed
unfolding scanned
returns-then-out-needed c = kept_short c.store_matches-needed.ensures (as-found (goal.at.returns-then-out-needed c).After-store_matches-needed) c.if-out-needed.true refl

pub returns : goal.returns
unfolding scanned
returns c = let k = c.store_matches-2.ensures in
    let count = c.store_matches-needed.ensures.counts in
    kept_listed k (as-found (goal.at.returns c).After-store_matches-needed) (omega (arith, ap length (as-found (goal.at.returns c).After-store_matches-needed), count, c.if-out-needed.false))
    (found k.counts)
