-- Checks in turn: the steps of a loop over them, and that the lowest check that refuses decides.
use Prim.Native.Nat.{ℕ, zero, suc, ◌+◌, ◌-◌, ◌≤◌, ◌<◌}
use native.Mathlib.Nat.{sub-zero, eq-or-lt_of_le}
use native.Mathlib.Omega.{arith}
use mathlib.Core.Path.{◌≡◌, refl, sym, ap, ◌∙◌}
use mathlib.Core.Logic.{◌⊎◌, inl, inr, ⊎_elim, ◌↔◌}
use Rattle.refusals.specs.declared.Refusal.{Refusal}
use Rattle.refusals.specs.Verdict.{Verdict}
use Rattle.refusals.specs.Verdict.{Fine, Refused}
use Rattle.refusals.specs.Order.{◌then◌, in_turn}
use Rattle.refusals.proofs.Order.{refused_not_fine, then_fine, then_refused, then_fine_iff}

-- the loop's invariant at i: the checks before i are fine, so what is left decides
pub record Head (n : ℕ) (check : ℕ → Verdict) (i : ℕ) : Type 0 where
  pub left : in_turn n 0 check ≡ in_turn (n - i) i check

-- where the loop begins all is left
pub head_first : (n : ℕ) (check : ℕ → Verdict) → Head n check 0
head_first n check = record { left = rw sub-zero }

module _ {n : ℕ} {check : ℕ → Verdict} {i : ℕ} (h : Head n check i) where
  one_less : i < n → in_turn (n - i) i check ≡ (check i then in_turn (n - (i + 1)) (i + 1) check)
  unfolding in_turn
  one_less l = let e : n - i ≡ suc (n - (i + 1)) = omega arith in rw (e, in_turn)

  -- a check that is fine leaves the decision to those after it
  pub head_step : i < n → check i ≡ Fine → Head n check (i + 1)
  head_step l e = record { left = h.left ∙ one_less l ∙ then_fine _ e }

  -- a check that refuses decides
  pub head_stop : i < n → {why : Refusal} → check i ≡ Refused why → in_turn n 0 check ≡ Refused why
  head_stop l e = h.left ∙ one_less l ∙ then_refused _ e

  -- at the end all are fine
  pub head_last : n ≤ i → in_turn n 0 check ≡ Fine
  unfolding in_turn
  head_last l = let e : n - i ≡ 0 = omega arith in h.left ∙ rw e

-- ---- what checks in turn say

-- where m checks from i on are fine, each is
fine_at : (m i : ℕ) (check : ℕ → Verdict) → in_turn m i check ≡ Fine → (j : ℕ) → i ≤ j → j < i + m → check j ≡ Fine
unfolding in_turn
fine_at zero i check e j l u = absurd (omega arith)
fine_at (suc m) i check e j l u = go (λ k. fine_at m (i + 1) check both.1 j k (omega arith)) (eq-or-lt_of_le l)
  where
    both : (check i ≡ Fine) × (in_turn m (i + 1) check ≡ Fine)
    both = (then_fine_iff (check i) (in_turn m (i + 1) check)).0 e

    go : (i + 1 ≤ j → check j ≡ Fine) → (i ≡ j) ⊎ (i < j) → check j ≡ Fine
    go r (inl q) = rw (← q) both.0
    go r (inr k) = r (omega arith)

-- where each of m checks from i on is fine, all are
fine_of : (m i : ℕ) (check : ℕ → Verdict) → ((j : ℕ) → i ≤ j → j < i + m → check j ≡ Fine) → in_turn m i check ≡ Fine
unfolding in_turn
fine_of zero i check h = refl
fine_of (suc m) i check h =
    then_fine _ (h i (omega arith) (omega arith)) ∙ fine_of m (i + 1) check (λ j l u. h j (omega arith) (omega arith))

-- n checks from 0 on are fine exactly where each is
pub turns_fine_iff : (n : ℕ) (check : ℕ → Verdict) → (in_turn n 0 check ≡ Fine) ↔ ((j : ℕ) → j < n → check j ≡ Fine)
turns_fine_iff n check =
    (λ e j l. fine_at n 0 check e j (omega arith) (omega arith), λ h. fine_of n 0 check (λ j l u. h j (omega arith)))

-- the lowest of m checks from i on that refuses: it refuses for why, and those before it are fine
pub record LowestRefusal (m i : ℕ) (check : ℕ → Verdict) (why : Refusal) : Type 0 where
  pub at : ℕ
  pub from : i ≤ at
  pub below : at < i + m
  pub refuses : check at ≡ Refused why
  pub fine_before : (k : ℕ) → i ≤ k → k < at → check k ≡ Fine

-- where checks in turn refuse, it is for what the lowest that refuses says
pub lowest_of_turns :
    (m i : ℕ) (check : ℕ → Verdict) {why : Refusal} → in_turn m i check ≡ Refused why → LowestRefusal m i check why
unfolding in_turn
lowest_of_turns zero i check e = refused_not_fine (sym e)
lowest_of_turns (suc m) i check {why} e = go (check i) refl (λ r. lowest_of_turns m (i + 1) check r)
  where
    fine : check i ≡ Fine → LowestRefusal m (i + 1) check why → LowestRefusal (suc m) i check why
    fine t w =
        record {
          at = w.at;
          from = omega (arith, w.from);
          below = omega (arith, w.below);
          refuses = w.refuses;
          fine_before =
              λ k p q. ⊎_elim (λ s. rw (← s) t) (λ s. w.fine_before k (omega arith) q) (eq-or-lt_of_le p);
        }

    go :
        (v : Verdict) → check i ≡ v → (in_turn m (i + 1) check ≡ Refused why → LowestRefusal m (i + 1) check why) →
        LowestRefusal (suc m) i check why
    go Fine t r = fine t (r (sym (then_fine _ t) ∙ e))
    go (Refused x) t r =
        record {
          at = i;
          from = omega arith;
          below = omega arith;
          refuses = t ∙ sym (then_refused _ t) ∙ e;
          fine_before = λ k p q. absurd (omega arith);
        }

-- checks in turn refuse for what the lowest that refuses says
pub turns_of_lowest :
    (m i : ℕ) (check : ℕ → Verdict) {why : Refusal} → LowestRefusal m i check why → in_turn m i check ≡ Refused why
unfolding in_turn
turns_of_lowest zero i check w = absurd (omega (arith, w.from, w.below))
turns_of_lowest (suc m) i check {why} w = go (λ t. turns_of_lowest m (i + 1) check t) (eq-or-lt_of_le w.from)
  where
    go :
        (LowestRefusal m (i + 1) check why → in_turn m (i + 1) check ≡ Refused why) → (i ≡ w.at) ⊎ (i < w.at) →
        (check i then in_turn m (i + 1) check) ≡ Refused why
    go r (inl q) = then_refused _ (ap check q ∙ w.refuses)
    go r (inr l) =
        then_fine _ (w.fine_before i (omega arith) l) ∙
        r
        (record {
          at = w.at;
          from = omega arith;
          below = omega (arith, w.below);
          refuses = w.refuses;
          fine_before = λ k p q. w.fine_before k (omega arith) q;
        })
