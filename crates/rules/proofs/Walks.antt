-- What the library says of all numbers of a range and of any item of a list, in the words of the contracts.
use Prim.Native.Nat.{ℕ, zero, suc, ◌+◌}
use native.Mathlib.Nat.{add-zero, zero-add}
use native.Mathlib.Numerals.{add-one}
use native.Mathlib.Omega.{arith}
use mathlib.Core.Bool.{Bool, ◌&&◌}
use mathlib.Core.Path.{◌≡◌, refl, sym, ◌∙◌}
use mathlib.Core.List.{List, [], ◌∷◌}
use lib.Dec.{eqb}
use Rattle.std.specs.List.{list_all, list_any, range_with_len}
use Rattle.std.proofs.Math.Bool.{and_assoc, and-true}
use Rattle.facts.specs.Below.{all_below}
use Rattle.facts.specs.Lists.{has}

all_on : (p : ℕ → Bool) (m i : ℕ) → (all_below i p && list_all p (range_with_len i m)) ≡ all_below (i + m) p
unfolding all_below
all_on p zero i = and-true _ ∙ rw add-zero
all_on p (suc m) i =
    let e : i + suc m ≡ i + 1 + m = omega arith in
    rw e (sym (and_assoc (all_below i p) (p i) _) ∙ rw (← all_on p m (i + 1), add-one, all_below))

-- a test holds of each of the n numbers counted up from 0 exactly where it holds of all below n
pub all_of_range : (n : ℕ) (p : ℕ → Bool) → list_all p (range_with_len 0 n) ≡ all_below n p
unfolding all_below
all_of_range n p = all_on p n 0 ∙ rw zero-add

-- some number of a list is the one that is looked for exactly where that one stands in the list
pub any_is : (l : List ℕ) (y : ℕ) → list_any (λ x. eqb x y) l ≡ has l y
unfolding has
any_is [] y = refl
any_is (x ∷ l) y = rw (any_is l y)
