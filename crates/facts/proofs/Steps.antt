-- One step along a list: what is left of numbers counted up, what a list has from a place on, and what is kept of a
-- list, by its first number.
use Prim.Native.Nat.{ℕ, zero, suc, ◌+◌, ◌-◌, ◌≤◌, ◌<◌}
use native.Mathlib.Numerals.{add-one}
use native.Mathlib.Omega.{arith}
use mathlib.Core.Bool.{Bool, true, false}
use mathlib.Core.Path.{◌≡◌, refl, ap}
use mathlib.Core.List.{List, [], ◌∷◌}
use lib.ListN.{length, get_or, drop, drop_of_length-le}
use lib.Seq.{drop-cons}
use Rattle.facts.specs.Lists.{up_from, keep}

-- while i is below n, the numbers from i up to n are i and those after it
pub up_step : (n i : ℕ) → i < n → up_from i (n - i) ≡ i ∷ up_from (i + 1) (n - (i + 1))
unfolding up_from
up_step n i l = let e : n - i ≡ suc (n - (i + 1)) = omega arith in rw (e, up_from)

-- from n on there are no numbers up to n
pub up_end : (n i : ℕ) → n ≤ i → up_from i (n - i) ≡ []
unfolding up_from
up_end n i l = let e : n - i ≡ 0 = omega arith in rw (e, up_from)

-- m numbers counted up are m
pub length_up : (m i : ℕ) → length (up_from i m) ≡ m
unfolding up_from
length_up zero i = refl
length_up (suc m) i = ap suc (length_up m (i + 1))

-- while i is below the length, a list has from i on what stands at i and what it has after it
pub drop_step : (l : List ℕ) (i : ℕ) → i < length l → drop i l ≡ get_or l i 0 ∷ drop (i + 1) l
drop_step l i h = rw (add-one i) (drop-cons l i 0 h)

-- from its length on, a list has nothing
pub drop_end : (l : List ℕ) (i : ℕ) → length l ≤ i → drop i l ≡ []
drop_end l i h = drop_of_length-le l h

-- nothing is kept of nothing
pub keep_none : (p : ℕ → Bool) {l : List ℕ} → l ≡ [] → keep p l ≡ []
unfolding keep
keep_none p e = rw (e, keep)

module _ (p : ℕ → Bool) (x : ℕ) {l next : List ℕ} (step : l ≡ x ∷ next) where
  -- a head that passes is kept
  pub keep_in : p x ≡ true → keep p l ≡ x ∷ keep p next
  unfolding keep
  keep_in t = rw (step, t)

  -- a head that fails is passed over
  pub keep_out : p x ≡ false → keep p l ≡ keep p next
  unfolding keep
  keep_out t = rw (step, t)
