-- Ranges: what their tests say of the ends.
use Prim.Native.Nat.{ℕ, ◌≤◌}
use mathlib.Core.Bool.{true}
use mathlib.Core.Path.{◌≡◌}
use mathlib.Core.Logic.{◌↔◌}
use lib.Dec.{leb}
use borrow.Author.Tests.{leb-true, le-leb}
use Rattle.facts.proofs.Bools.{both, join}
use Rattle.fields.specs.Ranges.{range_good, range_holds, ranges_meet}

-- a range holds exactly the words between its ends
pub holds_iff_between : (low high x : ℕ) → (range_holds low high x ≡ true) ↔ ((low ≤ x) × (x ≤ high))
unfolding range_holds
holds_iff_between low high x = (
  λ e. let t = both (leb low x) (leb x high) e in (leb-true low x t.0, leb-true x high t.1),
  λ h. join (le-leb low x h.0) (le-leb x high h.1),
)

-- a good range begins no later than it ends
pub range_not_empty : (low high largest : ℕ) → range_good low high largest ≡ true → low ≤ high
unfolding range_good
range_not_empty low high largest e = leb-true low high (both (leb low high) (leb high largest) e).0

-- two ranges meet exactly where each begins no later than the other ends
pub ranges_meet_iff : (low high from to : ℕ) → (ranges_meet low high from to ≡ true) ↔ ((low ≤ to) × (from ≤ high))
unfolding ranges_meet
ranges_meet_iff low high from to = (
  λ e. let t = both (leb low to) (leb from high) e in (leb-true low to t.0, leb-true from high t.1),
  λ h. join (le-leb low to h.0) (le-leb from high h.1),
)
