-- The laws of decimal numbers: what is written reads back, and what reads well is what would be written.
use Prim.Native.Nat.{ℕ, zero, suc, ◌+◌, ◌-◌, ◌*◌, ◌/◌, ◌%◌, ◌<◌, ◌≤◌}
use native.Mathlib.Omega.{arith}
use mathlib.Core.Bool.{Bool, true, false, cond}
use mathlib.Core.List.{List, [], ◌∷◌, ◌++◌, append_assoc}
use mathlib.Core.Path.{◌≡◌, refl, sym, ap, ◌∙◌, subst}
use lib.Dec.{ltb, eqb}
use lib.ListN.{length, length-append}
use borrow.Author.Tests.{lt-ltb, le-ltb, ne_eqb, ltb-true, ltb-false, eqb-true, eqb-false}
use Rattle.text.specs.Numbers.{got, bad, digits_by, digits_of, is_digit, more, read_number}
use Rattle.text.proofs.Digit.{digit_of, digit_range}

-- nothing was found and something was: this cannot be
pub bad_got : {A B : Type 0} {a : A} {r : List ℕ} → bad ≡ got a r → B
bad_got h = let z : ◌≡◌ {A = ℕ} 0 1 = cc in absurd (omega arith)

-- where two bounds on the count of digits both suffice, the digits are the same
enough : (f g n : ℕ) (small : Bool) → ltb n 10 ≡ small → n ≤ f → n ≤ g → digits_by f small n ≡ digits_by g small n
unfolding digits_by
enough zero zero n small e p q = refl
enough zero (suc g) n true e p q = refl
enough zero (suc g) n false e p q = absurd (omega (arith, ltb-false n 10 e))
enough (suc f) zero n true e p q = refl
enough (suc f) zero n false e p q = absurd (omega (arith, ltb-false n 10 e))
enough (suc f) (suc g) n true e p q = refl
enough (suc f) (suc g) n false e p q =
    let h : 10 ≤ n = ltb-false n 10 e in
    ap (λ (l : List ℕ). l ++ ((48 + n % 10) ∷ []))
    (enough f g (n / 10) (ltb (n / 10) 10) refl (omega arith) (omega arith))

-- a number of ten or more is written as its tenth part and then its last digit
pub digits_last : (n v d : ℕ) → n / 10 ≡ v → n % 10 ≡ d → 10 ≤ n → digits_of n ≡ digits_of v ++ ((48 + d) ∷ [])
unfolding digits_of digits_by
digits_last n v d ev ed h =
    enough n (suc n) n (ltb n 10) refl (omega arith) (omega arith)
    ∙ rw (le-ltb n 10 h, ev, ed)
    (ap (λ (l : List ℕ). l ++ ((48 + d) ∷ [])) (enough n v v (ltb v 10) refl (omega arith) (omega arith)))

-- ten times a number other than 0, and a digit, is written as the number and then the digit
pub digits_more : (v d : ℕ) → 0 < v → d < 10 → digits_of (v * 10 + d) ≡ digits_of v ++ ((48 + d) ∷ [])
digits_more v d p q = digits_last (v * 10 + d) v d (omega arith) (omega arith) (omega arith)

-- a number below ten is written as one digit
pub digits_one : (d : ℕ) → d < 10 → digits_of d ≡ (48 + d) ∷ []
unfolding digits_of digits_by
digits_one d q = enough d (suc d) d (ltb d 10) refl (omega arith) (omega arith) ∙ rw (lt-ltb d 10 q)

by_length : (f : ℕ) (small : Bool) (n : ℕ) → length (digits_by f small n) ≤ f + 1
unfolding digits_by
by_length zero small n = omega arith
by_length (suc f) true n = omega arith
by_length (suc f) false n = simp length-append (omega (arith, by_length f (ltb (n / 10) 10) (n / 10)))

-- a number n has at most n + 1 digits
pub digits_length : (n : ℕ) → length (digits_of n) ≤ n + 1
unfolding digits_of
digits_length n = by_length n (ltb n 10) n

-- the bytes do not go on with a digit
unfoldable pub Ends : List ℕ → Type 0
Ends [] = Unit {0}
Ends (b ∷ bs) = is_digit b ≡ false

more_digit :
    (lim v d : ℕ) (s : List ℕ) → d < 10 → v * 10 + d < lim → more lim v ((48 + d) ∷ s) ≡ more lim (v * 10 + d) s
unfolding more
more_digit lim v d s q h =
    let e : (48 + d) - 48 ≡ d = omega arith in
    rw (digit_of (48 + d) (omega arith) (omega arith), e, lt-ltb (v * 10 + d) lim h)

more_ends : (lim n : ℕ) (s : List ℕ) → Ends s → more lim n s ≡ got n s
unfolding more Ends
more_ends lim n [] h = refl
more_ends lim n (b ∷ bs) h = rw h

first_digit : (lim n : ℕ) (s : List ℕ) → 0 < n → n < 10 → n < lim → read_number lim ((48 + n) ∷ s) ≡ more lim n s
unfolding read_number
first_digit lim n s p q h =
    let e : 0 * 10 + n ≡ n = omega arith in
    rw (digit_of (48 + n) (omega arith) (omega arith), ne_eqb (48 + n) 48 (λ z. omega arith))
    (more_digit lim 0 n s q (omega arith) ∙ ap (λ (k : ℕ). more lim k s) e)

digits_read :
    (f lim n : ℕ) (s : List ℕ) (small : Bool) → ltb n 10 ≡ small → n ≤ f → 0 < n → n < lim →
    read_number lim (digits_of n ++ s) ≡ more lim n s
digits_read zero lim n s small e l p h = absurd (omega arith)
digits_read (suc f) lim n s true e l p h =
    rw (digits_one n (ltb-true n 10 e)) (first_digit lim n s p (ltb-true n 10 e) h)
digits_read (suc f) lim n s false e l p h =
    let m : 10 ≤ n = ltb-false n 10 e in
    let k : n / 10 * 10 + n % 10 ≡ n = omega arith in
    rw (digits_last n (n / 10) (n % 10) refl refl m, append_assoc)
    (digits_read f lim (n / 10) ((48 + n % 10) ∷ s) (ltb (n / 10) 10) refl (omega arith) (omega arith) (omega arith)
    ∙ more_digit lim (n / 10) (n % 10) s (omega arith) (omega arith)
    ∙ ap (λ (x : ℕ). more lim x s) k)

-- the digits of a number below the limit read back to it, if no digit follows them
pub number_back : (lim n : ℕ) (s : List ℕ) → n < lim → Ends s → read_number lim (digits_of n ++ s) ≡ got n s
unfolding read_number digits_of digits_by is_digit
number_back lim zero s h e = refl
number_back lim (suc n) s h e =
    digits_read (suc n) lim (suc n) s (ltb (suc n) 10) refl (omega arith) (omega arith) h ∙ more_ends lim (suc n) s e

-- the bytes s are the digits of n, which is below lim, and then r
abbrev Spelt : ℕ → List ℕ → ℕ → List ℕ → Type 0
Spelt lim s n r = (s ≡ digits_of n ++ r) × (n < lim)

module _ (lim v b w : ℕ) (bs : List ℕ) (n : ℕ) (r : List ℕ) (next : w ≡ v * 10 + (b - 48)) where
  more_step : (t u : Bool) → is_digit b ≡ t → ltb w lim ≡ u → 0 < v → v < lim →
      cond t (cond u (more lim w bs) bad) (got v (b ∷ bs)) ≡ got n r →
      (0 < w → w < lim → more lim w bs ≡ got n r → Spelt lim (digits_of w ++ bs) n r) →
      Spelt lim (digits_of v ++ (b ∷ bs)) n r
  more_step true true e f p q h ih =
      let d = digit_range b e in
      let k : 48 + (b - 48) ≡ b = omega arith in
      let rest = ih (omega arith) (ltb-true w lim f) h in
      let same : digits_of w ++ bs ≡ digits_of v ++ (b ∷ bs) =
      rw (next, digits_more v (b - 48) p (omega arith), append_assoc, k) in
      (sym same ∙ rest.0, rest.1)
  more_step true false e f p q h ih = bad_got h
  more_step false u e f p q h ih = ((cc), subst (λ (x : ℕ). x < lim) (cc) q)

more_exact :
    (lim v : ℕ) (s : List ℕ) (n : ℕ) (r : List ℕ) → 0 < v → v < lim → more lim v s ≡ got n r →
    Spelt lim (digits_of v ++ s) n r
unfolding more
more_exact lim v [] n r p q h = ((cc), subst (λ (x : ℕ). x < lim) (cc) q)
more_exact lim v (b ∷ bs) n r p q h =
    let w : ℕ = v * 10 + (b - 48) in
    more_step lim v b w bs n r refl (is_digit b) (ltb w lim) refl refl p q h (more_exact lim w bs n r)

module _ (lim b w : ℕ) (bs : List ℕ) (n : ℕ) (r : List ℕ) (next : w ≡ 0 * 10 + (b - 48)) where
  first_step :
      (t u x : Bool) → is_digit b ≡ t → eqb b 48 ≡ u → ltb w lim ≡ x → 0 < lim →
      cond t (cond u (got 0 bs) (cond t (cond x (more lim w bs) bad) (got 0 (b ∷ bs)))) bad ≡ got n r →
      Spelt lim (b ∷ bs) n r
  unfolding digits_of digits_by
  first_step true true x e f g p h =
      let en : n ≡ 0 = cc in
      let er : r ≡ bs = cc in
      rw (en, er, eqb-true b 48 f) (refl, p)
  first_step true false true e f g p h =
      let d = digit_range b e in
      let ne = eqb-false b 48 f in
      let k : 48 + w ≡ b = omega arith in
      let rest = more_exact lim w bs n r (omega arith) (ltb-true w lim g) h in
      let same : digits_of w ++ bs ≡ b ∷ bs = rw (digits_one w (omega arith), k) in
      (sym same ∙ rest.0, rest.1)
  first_step true false false e f g p h = bad_got h
  first_step false u x e f g p h = bad_got h

-- bytes from which a number reads are its digits and what is left, and the number is below the limit
pub number_exact :
    (lim : ℕ) (s : List ℕ) (n : ℕ) (r : List ℕ) → 0 < lim → read_number lim s ≡ got n r →
    (s ≡ digits_of n ++ r) × (n < lim)
unfolding read_number more
number_exact lim [] n r p h = bad_got h
number_exact lim (b ∷ bs) n r p h =
    let w : ℕ = 0 * 10 + (b - 48) in
    first_step lim b w bs n r refl (is_digit b) (eqb b 48) (ltb w lim) refl refl refl p h
