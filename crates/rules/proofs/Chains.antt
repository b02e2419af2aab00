-- Chains of rules, for any slots that rules with equal words share: what the chains say, and the steps of the loop that
-- goes along one.
use Prim.Native.Nat.{ℕ, zero, suc, ◌+◌, ◌-◌, ◌≤◌, ◌<◌}
use native.Mathlib.Omega.{arith}
use mathlib.Core.Bool.{Bool, true, false, cond}
use mathlib.Core.Path.{◌≡◌, refl, sym}
use mathlib.Core.List.{List}
use lib.ListN.{get_or}
use lib.Dec.{eqb}
use borrow.Author.Tests.{eqb-true, eqb-false}
use Rattle.facts.proofs.Bools.{fails, clash}
use Rattle.facts.proofs.Cases.{Order, below, same, above, order}
use Rattle.rules.specs.Twins.{same_words, earlier_twin}
use Rattle.rules.specs.Chains.{latest_in, Chained}
use Rattle.rules.proofs.EqualWords.{same_of_same, twin_found, no_twin_iff}

-- ---- the latest rule of a slot

module _ (slot : ℕ → ℕ) where
  -- the place of the latest rule before r in slot s: that rule is before r and in s, and those from it on are not in s
  record IsLatest (r s c : ℕ) : Type 0 where
    pub within : c ≤ r
    pub there : 0 < c → slot (c - 1) ≡ s
    pub none_after : (q : ℕ) → c ≤ q → q < r → slot q ≡ s → ⊥

  is_latest : (r s : ℕ) → IsLatest r s (latest_in slot r s)
  unfolding latest_in
  is_latest zero s =
      record { within = omega arith; there = λ l. absurd (omega arith); none_after = λ q l u e. omega arith }
  is_latest (suc r) s = go (eqb (slot r) s) refl (is_latest r s)
    where
      go :
          (b : Bool) → eqb (slot r) s ≡ b → IsLatest r s (latest_in slot r s) →
          IsLatest (suc r) s (cond b (r + 1) (latest_in slot r s))
      go true t w =
          let last : r + 1 - 1 ≡ r = omega arith in
          record {
            within = omega arith;
            there = λ l. rw last (eqb-true (slot r) s t);
            none_after = λ q l u e. absurd (omega arith);
          }
      go false t w =
          record {
            within = omega (arith, w.within);
            there = w.there;
            none_after = λ q l u e. other q l u e (order q r);
          }
        where
          other : (q : ℕ) → latest_in slot r s ≤ q → q < suc r → slot q ≡ s → Order q r → ⊥
          other q l u e (below k) = w.none_after q l k e
          other q l u e (same k) = eqb-false (slot r) s t (rw (← k) e)
          other q l u e (above k) = omega arith

-- ---- the loop along a chain

module _
    (rs : List ℕ) (slot : ℕ → ℕ) (shared : (q r : ℕ) → same_words rs q r ≡ true → slot q ≡ slot r) where
  -- the loop's invariant at the place c: a rule stands there in r's slot, or the chain ends; and no rule from it on
  -- has r's words
  pub record Sought (r c : ℕ) : Type 0 where
    pub within : c ≤ r
    pub there : 0 < c → slot (c - 1) ≡ slot r
    pub passed : (q : ℕ) → c ≤ q → q < r → same_words rs q r ≡ false

  -- the loop begins at the latest rule of the slot
  pub sought_first : {r c : ℕ} → c ≡ latest_in slot r (slot r) → Sought r c
  sought_first {r} {c} e =
      let w : IsLatest slot r (slot r) c = rw e (is_latest slot r (slot r)) in
      record {
        within = w.within;
        there = w.there;
        passed = λ q l u. fails (same_words rs q r) (λ t. w.none_after q l u (shared q r t));
      }

  module _ {r c : ℕ} {before : List ℕ} (w : Sought r c) (h : Chained rs slot before r) where
    -- places fall along a chain
    pub sought_falls : {next : ℕ} → 0 < c → next ≡ get_or before (c - 1) 0 → next < c
    sought_falls {next} l e =
        let link = h.links (c - 1) (omega (arith, w.within)) in
        omega (arith, e, link, (is_latest slot (c - 1) (slot (c - 1))).within)

    -- a rule without r's words leaves it to the rest of the chain
    pub sought_step :
        {next : ℕ} → 0 < c → same_words rs (c - 1) r ≡ false → next ≡ get_or before (c - 1) 0 → Sought r next
    sought_step {next} l s e =
        let v : IsLatest slot (c - 1) (slot r) next =
        rw (e, h.links (c - 1) (omega (arith, w.within)), w.there l) (is_latest slot (c - 1) (slot r)) in
        record {
          within = omega (arith, v.within, w.within);
          there = v.there;
          passed = λ q m u. go v q m u (order q (c - 1));
        }
      where
        go :
            IsLatest slot (c - 1) (slot r) next → (q : ℕ) → next ≤ q → q < r → Order q (c - 1) →
            same_words rs q r ≡ false
        go v q m u (below k) = fails (same_words rs q r) (λ t. v.none_after q m k (shared q r t))
        go v q m u (same k) = rw k s
        go v q m u (above k) = w.passed q (omega arith) u

    -- a rule with r's words is its earlier twin
    pub sought_hit : 0 < c → same_words rs (c - 1) r ≡ true → c - 1 ≡ earlier_twin rs r
    sought_hit l s =
        let before_r : c - 1 < r = omega (arith, w.within) in
        sym
        (twin_found rs (c - 1) r before_r s
        (λ p k.
        fails (same_words rs p r)
        (λ t. clash (same_of_same rs p (c - 1) r t s) (h.apart p (c - 1) k before_r))))

    -- at the end of the chain there is none
    pub sought_last : c ≤ 0 → r ≡ earlier_twin rs r
    sought_last l = sym ((no_twin_iff rs r).1 (λ q u. w.passed q (omega arith) u))
