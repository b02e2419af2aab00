-- Lists of numbers that are all below a limit.
use Prim.Native.Nat.{ℕ, zero, suc, ◌<◌}
use native.Mathlib.Omega.{arith}
use mathlib.Core.List.{List, [], ◌∷◌, ◌++◌}
use lib.ListN.{length, get_or, take, drop}
use Rattle.text.specs.Line.{EachUnder}

-- two lists of numbers below a limit are one such list
pub below_append : (lim : ℕ) (a b : List ℕ) → EachUnder lim a → EachUnder lim b → EachUnder lim (a ++ b)
below_append lim [] b p q = q
below_append lim (x ∷ a) b p q = (p.0, below_append lim a b p.1 q)

-- at each place stands a number below the limit, and past the end 0, if that is below it too
pub below_at : (lim : ℕ) (vs : List ℕ) (i : ℕ) → 0 < lim → EachUnder lim vs → get_or vs i 0 < lim
below_at lim [] i p b = p
below_at lim (v ∷ vs) zero p b = b.0
below_at lim (v ∷ vs) (suc i) p b = below_at lim vs i p b.1

-- the numbers from a place on are below the limit
pub below_drop : (lim i : ℕ) (vs : List ℕ) → EachUnder lim vs → EachUnder lim (drop i vs)
below_drop lim zero vs b = b
below_drop lim (suc i) [] b = tt
below_drop lim (suc i) (v ∷ vs) b = below_drop lim i vs b.1

-- the numbers before a place are below the limit
pub below_take : (lim i : ℕ) (vs : List ℕ) → EachUnder lim vs → EachUnder lim (take i vs)
below_take lim zero vs b = tt
below_take lim (suc i) [] b = tt
below_take lim (suc i) (v ∷ vs) b = (b.0, below_take lim i vs b.1)

-- numbers that are each below a limit are all below it
pub below_of : (lim : ℕ) (vs : List ℕ) → ((i : ℕ) → i < length vs → get_or vs i 0 < lim) → EachUnder lim vs
below_of lim [] h = tt
below_of lim (v ∷ vs) h = (h 0 (omega arith), below_of lim vs (λ i b. h (suc i) (omega arith)))
