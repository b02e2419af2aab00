-- What stands at a place of a list: it stands in the list; and what numbers counted up have there.
use Prim.Native.Nat.{ℕ, zero, suc, ◌+◌, ◌<◌}
use native.Mathlib.Nat.{le_of_suc-le-suc, not-suc-le-zero}
use native.Mathlib.Omega.{arith}
use mathlib.Core.Bool.{true}
use mathlib.Core.Path.{◌≡◌, refl, ◌∙◌}
use mathlib.Core.List.{List, [], ◌∷◌}
use lib.ListN.{length, get_or}
use Rattle.facts.specs.Lists.{up_from, has}
use Rattle.facts.proofs.Members.{has_first, has_tail}

-- what stands at a place below the length stands in the list
pub has_at : (l : List ℕ) (j : ℕ) → j < length l → has l (get_or l j 0) ≡ true
has_at [] j h = absurd (not-suc-le-zero h)
has_at (x ∷ xs) zero h = has_first x xs x refl
has_at (x ∷ xs) (suc j) h = has_tail x xs (get_or xs j 0) (has_at xs j (le_of_suc-le-suc h))

-- at place j of numbers counted up from i stands i + j
pub get_or_up : (m i j : ℕ) → j < m → get_or (up_from i m) j 0 ≡ i + j
unfolding up_from
get_or_up zero i j h = absurd (not-suc-le-zero h)
get_or_up (suc m) i zero h = omega arith
get_or_up (suc m) i (suc j) h = get_or_up m (i + 1) j (le_of_suc-le-suc h) ∙ omega arith
