-- A test of each number below n: it holds exactly where the test holds of each; and the steps of a loop that tests
-- them.
use Prim.Native.Nat.{ℕ, zero, suc, ◌+◌, ◌≤◌, ◌<◌}
use native.Mathlib.Nat.{not-suc-le-zero}
use native.Mathlib.Numerals.{add-one}
use native.Mathlib.Omega.{arith}
use mathlib.Core.Bool.{Bool, true, false}
use mathlib.Core.Path.{◌≡◌, refl, sym, ap, ◌∙◌}
use Rattle.facts.specs.Below.{all_below}
use Rattle.facts.proofs.Bools.{both, join, clash, fails}
use Rattle.facts.proofs.Cases.{Order, below, same, above, order}

-- where all below n pass, each does
pub all_below_at : (n : ℕ) (p : ℕ → Bool) → all_below n p ≡ true → (i : ℕ) → i < n → p i ≡ true
unfolding all_below
all_below_at zero p e i h = absurd (not-suc-le-zero h)
all_below_at (suc n) p e i h = go (λ l. all_below_at n p (both (all_below n p) (p n) e).0 i l) (order i n)
  where
    go : (i < n → p i ≡ true) → Order i n → p i ≡ true
    go r (below l) = r l
    go r (same q) = ap p q ∙ (both (all_below n p) (p n) e).1
    go r (above l) = absurd (omega arith)

-- where each below n passes, all do
pub all_below_of : (n : ℕ) (p : ℕ → Bool) → ((i : ℕ) → i < n → p i ≡ true) → all_below n p ≡ true
unfolding all_below
all_below_of zero p h = refl
all_below_of (suc n) p h = join (all_below_of n p (λ i l. h i (omega arith))) (h n (omega arith))

-- two tests that agree below n hold alike of all below n
pub all_below_same : (n : ℕ) (p q : ℕ → Bool) → ((i : ℕ) → i < n → p i ≡ q i) → all_below n p ≡ all_below n q
unfolding all_below
all_below_same zero p q h = refl
all_below_same (suc n) p q h = rw (all_below_same n p q (λ i l. h i (omega arith)), h n (omega arith))

-- ---- a loop that tests each number below n, from 0 on

-- the loop's invariant at i: it goes no further than n, and each number before i passed
pub record AllPassed (n : ℕ) (p : ℕ → Bool) (i : ℕ) : Type 0 where
  pub within : i ≤ n
  pub passed : all_below i p ≡ true

-- where the loop begins none was tested
pub passed_first : (n : ℕ) (p : ℕ → Bool) → AllPassed n p 0
unfolding all_below
passed_first n p = record { within = omega arith; passed = refl }

module _ {n : ℕ} {p : ℕ → Bool} {i : ℕ} (w : AllPassed n p i) where
  -- a number that passes leaves it to those after it
  pub passed_step : i < n → p i ≡ true → AllPassed n p (i + 1)
  unfolding all_below
  passed_step l e = record { within = omega arith; passed = rw (add-one, all_below) (join w.passed e) }

  -- a number that fails decides
  pub passed_stop : i < n → p i ≡ false → false ≡ all_below n p
  passed_stop l e = sym (fails (all_below n p) (λ t. clash (all_below_at n p t i l) e))

  -- at the end all pass
  pub passed_last : n ≤ i → true ≡ all_below n p
  passed_last l = let e : i ≡ n = omega arith in sym (rw e at w.passed)
