-- Prefixes of addresses of any width: the tests one by one, and that a good prefix is its range.
use Prim.Native.Nat.{ℕ, zero, suc, ◌+◌, ◌-◌, ◌*◌, ◌/◌, ◌%◌, ◌^◌, ◌≤◌, ◌<◌, min, zero-le}
use native.Mathlib.Nat.{div-add-mod', mod-lt, mod-one, div-eq_of_lt, div-eq_of_lt-le, mul-div_cancel, div_self, min-eq_left, min-eq_right}
use native.Mathlib.Numerals.{add-one}
use native.Mathlib.Omega.{arith}
use mathlib.Core.Bool.{true, false, ◌&&◌}
use mathlib.Core.Path.{◌≡◌, refl, sym, ap, ◌∙◌}
use mathlib.Core.Logic.{◌↔◌}
use lib.Dec.{leb, ltb, eqb}
use lib.Bits.{bit_xor, xor_shr}
use lib.Count.{count_trailing_zeros, under}
use lib.Pow.{pow_pos, pow_mono, pow-lt, pow-add, mod-pow-add, shl-shr}
use borrow.Author.Tests.{le-leb, lt-leb, leb-true, eqb-true, eq-eqb, le-ltb}
use Rattle.facts.proofs.Bools.{both, join, same_test}
use Rattle.facts.proofs.Cases.{WithinOrOver, within_or_over, at_most, over}
use Rattle.facts.proofs.Bits.{no_bit_differs, below_as_quotient}
use Rattle.fields.specs.Ranges.{ranges_meet}
use Rattle.fields.specs.Prefixes.{span, prefix_good, prefix_agrees, prefix_meets}

-- ---- the tests, as the code makes them

-- the first bits of two words agree exactly where the bits in which the two differ make a number below 2^w shifted to
-- the right by the length; where the length is over the width, that is 0, and no number is below it
pub difference_agrees :
    (w address len x : ℕ) → ltb (bit_xor address x) (2 ^ w / 2 ^ len) ≡ prefix_agrees w address len x
unfolding prefix_agrees span
difference_agrees w address len x = by (within_or_over len w)
  where
    d : ℕ
    d = bit_xor address x

    s : ℕ
    s = 2 ^ (w - len)

    shared : len ≤ w → 2 ^ w / 2 ^ len ≡ s
    shared h =
        let apart : w ≡ (w - len) + len = omega arith in
        ap (λ (n : ℕ). 2 ^ n / 2 ^ len) apart ∙ ap (λ (n : ℕ). n / 2 ^ len) (pow-add 2 (w - len) len) ∙ shl-shr s len

    below_shared : ltb d s ≡ eqb (address / s) (x / s)
    below_shared =
        below_as_quotient d s (pow_pos (w - len)) ∙ ap (λ (n : ℕ). eqb n 0) (xor_shr address x (w - len)) ∙
        no_bit_differs (address / s) (x / s)

    by : WithinOrOver len w → ltb d (2 ^ w / 2 ^ len) ≡ (leb len w && eqb (address / s) (x / s))
    by (at_most h) = rw (shared h, le-leb len w h) below_shared
    by (over h) = rw (lt-leb len w h, div-eq_of_lt (pow-lt h)) (le-ltb d 0 (omega arith))

-- a length over the width is not good
pub long_not_good : (w address len : ℕ) → w < len → false ≡ prefix_good w address len
unfolding prefix_good
long_not_good w address len l = rw (lt-leb len w l)

-- within the width, the w lowest bits of a number end in at least k zeros exactly where 2^k divides the number
ends_in_zeros_iff : (w k n : ℕ) → k ≤ w → (k ≤ count_trailing_zeros w n) ↔ (n % 2 ^ k ≡ 0)
unfolding count_trailing_zeros
ends_in_zeros_iff w zero n h = (λ _. mod-one n, λ _. zero-le)
ends_in_zeros_iff zero (suc k) n h = absurd (omega arith)
ends_in_zeros_iff (suc w) (suc k) n h = by (n % 2) refl (ends_in_zeros_iff w k (n / 2) (omega arith))
  where
    t : ℕ
    t = count_trailing_zeros w (n / 2)

    parted : n % 2 ^ suc k ≡ n / 2 % 2 ^ k * 2 + n % 2
    parted = rw (← add-one k) (mod-pow-add n k 1)

    by : (bit : ℕ) → n % 2 ≡ bit → (k ≤ t) ↔ (n / 2 % 2 ^ k ≡ 0) → (suc k ≤ under bit t) ↔ (n % 2 ^ suc k ≡ 0)
    by zero e rest = (
      λ l. omega (arith, parted, rest.0 (omega arith)),
      λ z. omega (arith, rest.1 (omega (arith, parted))),
    )
    by (suc bit) e rest = (λ l. absurd (omega arith), λ z. absurd (omega (arith, parted)))

-- within the width, a prefix is good exactly where its address ends in at least as many zeros as it has bits past the
-- length
pub zeros_past_good :
    (w address len : ℕ) → len ≤ w → leb (w - len) (count_trailing_zeros w address) ≡ prefix_good w address len
unfolding prefix_good span
zeros_past_good w address len l = rw (le-leb len w l) (same_test (leb k t) (eqb (address % 2 ^ k) 0) to of)
  where
    k : ℕ
    k = w - len

    t : ℕ
    t = count_trailing_zeros w address

    to : leb k t ≡ true → eqb (address % 2 ^ k) 0 ≡ true
    to e = eq-eqb (address % 2 ^ k) 0 ((ends_in_zeros_iff w k address (omega arith)).0 (leb-true k t e))

    of : eqb (address % 2 ^ k) 0 ≡ true → leb k t ≡ true
    of e = le-leb k t ((ends_in_zeros_iff w k address (omega arith)).1 (eqb-true (address % 2 ^ k) 0 e))

-- ---- how many words share a prefix

-- at least one word has the first bits
pub span_pos : (w len : ℕ) → 0 < span w len
unfolding span
span_pos w len = pow_pos (w - len)

-- no more words share a prefix than there are
pub span_at_most : (w len : ℕ) → span w len ≤ 2 ^ w
unfolding span
span_at_most w len = pow_mono (omega arith)

-- all words of the width, shifted to the right by the length, or by the width where that is less, are the span
pub shifted_span : (w len : ℕ) → 2 ^ w / 2 ^ min len w ≡ span w len
unfolding span
shifted_span w len = by (within_or_over len w)
  where
    by : WithinOrOver len w → 2 ^ w / 2 ^ min len w ≡ 2 ^ (w - len)
    by (at_most h) =
        let bits : w ≡ (w - len) + len = omega arith in
        rw (min-eq_left h)
        (ap (λ (j : ℕ). 2 ^ j / 2 ^ len) bits ∙ ap (λ (j : ℕ). j / 2 ^ len) (pow-add 2 (w - len) len) ∙
        mul-div_cancel (2 ^ (w - len)) (pow_pos len))
    by (over h) =
        let none : w - len ≡ 0 = omega arith in
        let capped : min len w ≡ w = min-eq_right (omega arith) in
        rw capped (rw none (div_self (pow_pos w)))

-- a range that ends before the address does not meet it
pub ends_before : (w address len from to : ℕ) → to < address → false ≡ prefix_meets w address len from to
unfolding prefix_meets ranges_meet
ends_before w address len from to l = rw (lt-leb address to l)

-- any other meets it exactly where it begins no later than the prefix ends
pub end_decides :
    (w address len from to : ℕ) {a s g : ℕ} → address ≤ to → g ≡ from → a ≡ address → s ≡ span w len →
    leb g (a + s - 1) ≡ prefix_meets w address len from to
unfolding prefix_meets ranges_meet
end_decides w address len from to l p q r = rw (p, q, r, le-leb address to l)

-- ---- a good prefix is its range

module _ (w address len : ℕ) (good : prefix_good w address len ≡ true) where
  tests : (leb len w ≡ true) × (eqb (address % span w len) 0 ≡ true)
  unfolding prefix_good
  tests = both (leb len w) (eqb (address % span w len) 0) good

  whole : address / span w len * span w len ≡ address
  whole = omega (arith, div-add-mod' address (span w len), eqb-true (address % span w len) 0 tests.1)

  agrees_in_range : (x : ℕ) → prefix_agrees w address len x ≡ true → (address ≤ x) × (x ≤ address + span w len - 1)
  unfolding prefix_agrees
  agrees_in_range x e = (
    omega (arith, div-add-mod' x (span w len), whole, q),
    omega (arith, div-add-mod' x (span w len), whole, q, mod-lt x (span_pos w len)),
  )
    where
      q : address / span w len * span w len ≡ x / span w len * span w len
      q =
          ap (λ (k : ℕ). k * span w len)
          (eqb-true (address / span w len) (x / span w len)
          (both (leb len w) (eqb (address / span w len) (x / span w len)) e).1)

  range_agrees : (x : ℕ) → (address ≤ x) × (x ≤ address + span w len - 1) → prefix_agrees w address len x ≡ true
  unfolding prefix_agrees
  range_agrees x h = join tests.0 (eq-eqb (address / span w len) (x / span w len) (sym q))
    where
      q : x / span w len ≡ address / span w len
      q = div-eq_of_lt-le (span w len) (omega (arith, whole)) (omega (arith, whole, span_pos w len))

  -- a good prefix agrees with exactly the words from its address up to address + 2^(w - len) - 1
  pub prefix_is_range :
      (x : ℕ) → (prefix_agrees w address len x ≡ true) ↔ ((address ≤ x) × (x ≤ address + span w len - 1))
  prefix_is_range x = (λ e. agrees_in_range x e, λ h. range_agrees x h)

  -- the range of a good prefix is not empty
  pub prefix_not_empty : address ≤ address + span w len - 1
  prefix_not_empty = omega (arith, span_pos w len)
