-- Slots: the mix of a rule's words fits, there are so many slots, and rules with equal words share one; and the loop
-- that works out the slot of each rule.
use Prim.Native.Nat.{ℕ, zero, suc, ◌+◌, ◌*◌, ◌/◌, ◌%◌, ◌^◌, ◌≤◌, ◌<◌}
use native.Mathlib.Nat.{le_of_lt, mul-le-mul}
use native.Mathlib.Numerals.{add-one}
use native.Mathlib.Omega.{arith}
use mathlib.Core.Bool.{true}
use mathlib.Core.Path.{◌≡◌, refl, ap, ◌∙◌}
use mathlib.Core.List.{List}
use lib.ListN.{length, get_or, set, length-set}
use lib.Seq.{get_or-set_same, get_or-set_other}
use lib.Dec.{ltb}
use borrow.Author.Tests.{ltb-true}
use Rattle.facts.specs.Below.{all_below}
use Rattle.facts.proofs.Below.{all_below_at}
use Rattle.facts.proofs.Cases.{Order, below, same, above, order}
use Rattle.rules.specs.Words.{match_words, most_rules, rule_count, word_of}
use Rattle.rules.specs.Twins.{same_words}
use Rattle.rules.specs.Chains.{slots, factors, dropped, mix_of, slot_of, SlotsAhead}
use Rattle.rules.proofs.EqualWords.{same_iff}

-- ---- the mix

factor_small : (j : ℕ) → j < match_words → get_or factors j 0 < 2 ^ 28
unfolding all_below
factor_small j l = ltb-true _ _ (all_below_at match_words (λ k. ltb (get_or factors k 0) (2 ^ 28)) refl j l)

-- a word times its factor is at most 2 ^ 60
part_small : {w : ℕ} (j : ℕ) → w < 2 ^ 32 → j < match_words → w * get_or factors j 0 ≤ 2 ^ 60
part_small {w} j small l = mul-le-mul (le_of_lt small) (le_of_lt (factor_small j l))

-- so the mix of j words is at most j such numbers
mix_small : (w : ℕ → ℕ) (j : ℕ) → ((i : ℕ) → w i < 2 ^ 32) → j ≤ match_words → mix_of w j ≤ j * 2 ^ 60
unfolding mix_of
mix_small w zero h l = omega arith
mix_small w (suc j) h l = omega (arith, mix_small w j h (omega arith), part_small j (h j) (omega arith))

-- words that agree have the same mix
mix_same : (v w : ℕ → ℕ) (n : ℕ) → ((j : ℕ) → j < n → v j ≡ w j) → mix_of v n ≡ mix_of w n
unfolding mix_of
mix_same v w zero h = refl
mix_same v w (suc n) h = rw (mix_same v w n (λ j l. h j (omega arith)), h n (omega arith))

-- ---- the loop over the words

-- the loop's invariant at j: the words before it are mixed
pub record Mixed (w : ℕ → ℕ) (mix j : ℕ) : Type 0 where
  pub within : j ≤ match_words
  pub is : mix ≡ mix_of w j

-- where the loop begins nothing is mixed
pub mixed_first : (w : ℕ → ℕ) → Mixed w 0 0
unfolding mix_of
mixed_first w = record { within = omega arith; is = refl }

module _ {w : ℕ → ℕ} {mix j word : ℕ} (m : Mixed w mix j) (l : j < match_words) (e : word ≡ w j) where
  -- one word more is mixed
  pub mixed_step : Mixed w (mix + word * get_or factors j 0) (j + 1)
  unfolding mix_of
  mixed_step = record { within = omega arith; is = rw (add-one j, mix_of, m.is, e) }

  module _ (h : (i : ℕ) → w i < 2 ^ 32) where
    -- of words of 32 bits the product fits
    pub product_fits : word * get_or factors j 0 < 2 ^ 64
    product_fits = omega (arith, part_small j (h j) l, ap (λ (x : ℕ). x * get_or factors j 0) e)

    -- and so does the sum
    pub sum_fits : mix + word * get_or factors j 0 < 2 ^ 64
    sum_fits = omega (arith, mixed_step.is, mix_small w (j + 1) h (omega arith))

-- ---- the slot

module _ (rs : List ℕ) (r : ℕ) where
  -- at the end the mix gives the slot
  pub mixed_last : {mix j : ℕ} → Mixed (word_of rs r) mix j → match_words ≤ j → mix / dropped % slots ≡ slot_of rs r
  unfolding slot_of
  mixed_last {mix} {j} m l =
      let all : j ≡ match_words = omega (arith, m.within) in
      let is : mix ≡ mix_of (word_of rs r) match_words = rw all at m.is in
      rw is

  -- there are `slots` slots
  pub slot_below : {s : ℕ} → s ≡ slot_of rs r → s < slots
  unfolding slot_of
  slot_below e = omega arith

-- rules with equal words share a slot
pub slot_of_same : (rs : List ℕ) (q r : ℕ) → same_words rs q r ≡ true → slot_of rs q ≡ slot_of rs r
unfolding slot_of
slot_of_same rs q r e = rw (mix_same (word_of rs q) (word_of rs r) match_words ((same_iff rs q r).0 e))

-- ---- the loop over the rules, for any slots

module _ (slot : ℕ → ℕ) where
  -- the loop's invariant at rule r: the slots of the rules before it are stored
  pub record SlotsBelow (words : List ℕ) (r : ℕ) : Type 0 where
    pub room : length words ≡ most_rules
    pub stored : (q : ℕ) → q < r → get_or words q 0 ≡ slot q

  -- where the loop begins there are none
  pub slots_first : (words : List ℕ) → length words ≡ most_rules → SlotsBelow words 0
  slots_first words l = record { room = l; stored = λ q u. absurd (omega arith) }

  -- one more is stored
  pub slots_step :
      {words : List ℕ} {r s : ℕ} → SlotsBelow words r → r < most_rules → s ≡ slot r → SlotsBelow (set words r s) (r + 1)
  slots_step {words} {r} {s} w l e =
      record { room = length-set words r s ∙ w.room; stored = λ q u. go q u (order q r) }
    where
      go : (q : ℕ) → q < r + 1 → Order q r → get_or (set words r s) q 0 ≡ slot q
      go q u (below k) = get_or-set_other words r q s 0 (λ p. omega arith) ∙ w.stored q k
      go q u (same k) = rw k (get_or-set_same words r s 0 (omega (arith, w.room)) ∙ e)
      go q u (above k) = absurd (omega arith)

  -- at the end they all are
  pub slots_last :
      {rs words : List ℕ} {r : ℕ} → SlotsBelow words r → rule_count rs ≤ r → SlotsAhead rs slot words 0
  slots_last w l = record { room = w.room; slots_are = λ q z u. w.stored q (omega arith) }
