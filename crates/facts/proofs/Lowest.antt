-- The lowest number of which a test holds: the steps of a loop that looks for it, and what it is.
use Prim.Native.Nat.{ℕ, zero, suc, ◌+◌, ◌-◌, ◌≤◌, ◌<◌}
use native.Mathlib.Nat.{sub-zero}
use native.Mathlib.Omega.{arith}
use mathlib.Core.Bool.{Bool, true, false, cond}
use mathlib.Core.Path.{◌≡◌, refl, ◌∙◌}
use mathlib.Core.Logic.{◌↔◌}
use Rattle.facts.specs.Below.{lowest}
use Rattle.facts.proofs.Bools.{clash}
use Rattle.facts.proofs.Cases.{Order, below, same, above, order}

-- the loop's invariant at i: the numbers before i fail, so what is left decides
pub record LowestLeft (n : ℕ) (p : ℕ → Bool) (i : ℕ) : Type 0 where
  pub left : lowest n 0 p ≡ lowest (n - i) i p

-- where the loop begins all is left
pub lowest_first : (n : ℕ) (p : ℕ → Bool) → LowestLeft n p 0
lowest_first n p = record { left = rw sub-zero }

module _ {n : ℕ} {p : ℕ → Bool} {i : ℕ} (w : LowestLeft n p i) where
  one_less : i < n → lowest (n - i) i p ≡ cond (p i) i (lowest (n - (i + 1)) (i + 1) p)
  unfolding lowest
  one_less l = let e : n - i ≡ suc (n - (i + 1)) = omega arith in rw (e, lowest)

  -- a number that passes is the lowest
  pub lowest_hit : i < n → p i ≡ true → lowest n 0 p ≡ i
  lowest_hit l t = w.left ∙ one_less l ∙ rw t

  -- a number that fails is passed over
  pub lowest_step : i < n → p i ≡ false → LowestLeft n p (i + 1)
  lowest_step l t = record { left = w.left ∙ one_less l ∙ rw t }

  -- at the end there is none
  pub lowest_last : n ≤ i → lowest n 0 p ≡ i
  unfolding lowest
  lowest_last l = let e : n - i ≡ 0 = omega arith in w.left ∙ rw e

-- ---- what the lowest is

-- the lowest of m numbers from i on, or i + m: it lies between, those before it fail, and before i + m it passes
record IsLowest (m i : ℕ) (p : ℕ → Bool) (j : ℕ) : Type 0 where
  pub from : i ≤ j
  pub to : j ≤ i + m
  pub hits : j < i + m → p j ≡ true
  pub none_before : (k : ℕ) → i ≤ k → k < j → p k ≡ false

is_lowest : (m i : ℕ) (p : ℕ → Bool) → IsLowest m i p (lowest m i p)
unfolding lowest
is_lowest zero i p =
    record {
      from = omega arith;
      to = omega arith;
      hits = λ l. absurd (omega arith);
      none_before = λ k l u. absurd (omega arith);
    }
is_lowest (suc m) i p = go (p i) refl (is_lowest m (i + 1) p)
  where
    go :
        (b : Bool) → p i ≡ b → IsLowest m (i + 1) p (lowest m (i + 1) p) →
        IsLowest (suc m) i p (cond b i (lowest m (i + 1) p))
    go true t r =
        record {
          from = omega arith;
          to = omega arith;
          hits = λ l. t;
          none_before = λ k l u. absurd (omega arith);
        }
    go false t r =
        record {
          from = omega (arith, r.from);
          to = omega (arith, r.to);
          hits = λ l. r.hits (omega arith);
          none_before = λ k l u. first k l u (order i k);
        }
      where
        first : (k : ℕ) → i ≤ k → k < lowest m (i + 1) p → Order i k → p k ≡ false
        first k l u (same q) = rw (← q) t
        first k l u (below q) = r.none_before k (omega arith) u
        first k l u (above q) = absurd (omega arith)

same_from :
    (m i : ℕ) (p q : ℕ → Bool) → ((j : ℕ) → i ≤ j → j < i + m → p j ≡ q j) → lowest m i p ≡ lowest m i q
unfolding lowest
same_from zero i p q h = refl
same_from (suc m) i p q h =
    rw (h i (omega arith) (omega arith), same_from m (i + 1) p q (λ j l u. h j (omega arith) (omega arith)))

-- two tests that agree below n have the same lowest
pub lowest_same : (n : ℕ) (p q : ℕ → Bool) → ((i : ℕ) → i < n → p i ≡ q i) → lowest n 0 p ≡ lowest n 0 q
lowest_same n p q h = same_from n 0 p q (λ j l u. h j (omega arith))

-- there is a lowest below n, or the answer is n
pub lowest_at_most : (n : ℕ) (p : ℕ → Bool) → lowest n 0 p ≤ n
lowest_at_most n p = omega (arith, (is_lowest n 0 p).to)

-- below n, the lowest passes and each before it fails
pub lowest_passes :
    (n : ℕ) (p : ℕ → Bool) (j : ℕ) → lowest n 0 p ≡ j → j < n → (p j ≡ true) × ((i : ℕ) → i < j → p i ≡ false)
lowest_passes n p j e l =
    let w : IsLowest n 0 p j = rw e at (is_lowest n 0 p) in
    (w.hits (omega arith), λ i u. w.none_before i (omega arith) u)

-- a number below n that passes, with each before it failing, is the lowest
pub lowest_unique :
    (n : ℕ) (p : ℕ → Bool) (j : ℕ) → j < n → p j ≡ true → ((i : ℕ) → i < j → p i ≡ false) → lowest n 0 p ≡ j
lowest_unique n p j l t f = go (order (lowest n 0 p) j)
  where
    w : IsLowest n 0 p (lowest n 0 p)
    w = is_lowest n 0 p

    go : Order (lowest n 0 p) j → lowest n 0 p ≡ j
    go (same q) = q
    go (below q) = clash (w.hits (omega arith)) (f (lowest n 0 p) q)
    go (above q) = clash t (w.none_before j (omega arith) q)

-- the answer is n exactly where each number below n fails
pub lowest_none_iff : (n : ℕ) (p : ℕ → Bool) → (lowest n 0 p ≡ n) ↔ ((i : ℕ) → i < n → p i ≡ false)
lowest_none_iff n p = (λ e i l. w.none_before i (omega arith) (omega arith), λ f. go f (order (lowest n 0 p) n))
  where
    w : IsLowest n 0 p (lowest n 0 p)
    w = is_lowest n 0 p

    go : ((i : ℕ) → i < n → p i ≡ false) → Order (lowest n 0 p) n → lowest n 0 p ≡ n
    go f (same q) = q
    go f (below q) = clash (w.hits (omega arith)) (f (lowest n 0 p) q)
    go f (above q) = absurd (omega (arith, w.to))
