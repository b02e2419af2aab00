-- Rising lists: numbers counted up rise, and so does what is kept of a rising list; nothing in one is below its first
-- number, and two with the same members are one.
use Prim.Native.Nat.{ℕ, zero, suc, ◌+◌, ◌≤◌, ◌<◌}
use native.Mathlib.Omega.{arith}
use mathlib.Core.Bool.{Bool, true, false, false≢true}
use mathlib.Core.Path.{◌≡◌, refl}
use mathlib.Core.Logic.{◌⊎◌, inl, inr}
use mathlib.Core.List.{List, [], ◌∷◌}
use lib.Dec.{leb}
use borrow.Author.Tests.{leb-true, le-leb}
use Rattle.facts.specs.Lists.{up_from, keep, has, rises}
use Rattle.facts.proofs.Bools.{both, join}
use Rattle.facts.proofs.Members.{has_cons, has_first, has_tail, kept_iff, up_iff}

-- a rising list's head is at least its bound, and its tail rises past the head
pub rises_first : (a x : ℕ) (xs : List ℕ) → rises a (x ∷ xs) ≡ true → (a ≤ x) × (rises (x + 1) xs ≡ true)
unfolding rises
rises_first a x xs e = let t = both (leb a x) (rises (x + 1) xs) e in (leb-true a x t.0, t.1)

-- a head at least the bound, before a tail that rises past it, makes a rising list
pub rises_cons : (a x : ℕ) (xs : List ℕ) → a ≤ x → rises (x + 1) xs ≡ true → rises a (x ∷ xs) ≡ true
unfolding rises
rises_cons a x xs l e = join (le-leb a x l) e

-- a list that rises from b rises from any lower bound
pub rises_lower : (a b : ℕ) (l : List ℕ) → a ≤ b → rises b l ≡ true → rises a l ≡ true
unfolding rises
rises_lower a b [] h e = refl
rises_lower a b (x ∷ xs) h e = let t = rises_first b x xs e in rises_cons a x xs (omega arith) t.1

-- what is kept of a rising list rises
pub rises_kept : (p : ℕ → Bool) (a : ℕ) (l : List ℕ) → rises a l ≡ true → rises a (keep p l) ≡ true
unfolding keep
rises_kept p a [] e = e
rises_kept p a (x ∷ xs) e = go (p x) refl (rises_kept p (x + 1) xs (rises_first a x xs e).1)
  where
    go : (b : Bool) → p x ≡ b → rises (x + 1) (keep p xs) ≡ true → rises a (keep p (x ∷ xs)) ≡ true
    go true t r = rw (t, keep) (rises_cons a x (keep p xs) (rises_first a x xs e).0 r)
    go false t r = rw (t, keep) (rises_lower a (x + 1) (keep p xs) (omega (arith, (rises_first a x xs e).0)) r)

-- numbers counted up rise
pub rises_up : (m i : ℕ) → rises i (up_from i m) ≡ true
unfolding up_from rises
rises_up zero i = refl
rises_up (suc m) i = join (le-leb i i (omega arith)) (rises_up m (i + 1))

-- what stands in a rising list is at least its bound
pub rises_low : (a : ℕ) (l : List ℕ) (y : ℕ) → rises a l ≡ true → has l y ≡ true → a ≤ y
unfolding has
rises_low a [] y e h = absurd (false≢true h)
rises_low a (x ∷ xs) y e h = go (has_cons x xs y h) (λ r. rises_low (x + 1) xs y (rises_first a x xs e).1 r)
  where
    go : (x ≡ y) ⊎ (has xs y ≡ true) → (has xs y ≡ true → x + 1 ≤ y) → a ≤ y
    go (inl q) r = let t = rises_first a x xs e in omega arith
    go (inr q) r = let t = rises_first a x xs e in let s = r q in omega arith

-- ---- the same members

-- what stands in a list and is past its head stands in its tail
past_head : (x : ℕ) (xs : List ℕ) (y : ℕ) → x < y → has (x ∷ xs) y ≡ true → has xs y ≡ true
past_head x xs y l e = go (has_cons x xs y e)
  where
    go : (x ≡ y) ⊎ (has xs y ≡ true) → has xs y ≡ true
    go (inl q) = absurd (omega arith)
    go (inr q) = q

-- l's numbers stand in m
abbrev pub Within : List ℕ → List ℕ → Type 0
Within l m = (y : ℕ) → has l y ≡ true → has m y ≡ true

-- the tail of a rising list stands in the tail of another with the same head
tail_within :
    (x : ℕ) (xs ys : List ℕ) → rises (x + 1) xs ≡ true → Within (x ∷ xs) (x ∷ ys) → Within xs ys
tail_within x xs ys r f z k =
    past_head x ys z (omega (arith, rises_low (x + 1) xs z r k)) (f z (has_tail x xs z k))

-- of two rising lists the first of which stands in the second, the second begins no later
head_at_most :
    (a x y : ℕ) (xs ys : List ℕ) → rises a (y ∷ ys) ≡ true → Within (x ∷ xs) (y ∷ ys) → y ≤ x
head_at_most a x y xs ys r f =
    rises_low y (y ∷ ys) x (rises_cons y y ys (omega arith) (rises_first a y ys r).1) (f x (has_first x xs x refl))

-- two rising lists with the same members are equal
pub rising_ext :
    (a : ℕ) (l m : List ℕ) → rises a l ≡ true → rises a m ≡ true → Within l m → Within m l → l ≡ m
unfolding has
rising_ext a [] [] p q f g = refl
rising_ext a [] (y ∷ ys) p q f g = absurd (false≢true (g y (has_first y ys y refl)))
rising_ext a (x ∷ xs) [] p q f g = absurd (false≢true (f x (has_first x xs x refl)))
rising_ext a (x ∷ xs) (y ∷ ys) p q f g = go heads (λ r s t u. rising_ext (x + 1) xs ys r s t u)
  where
    heads : x ≡ y
    heads = omega (arith, head_at_most a x y xs ys q f, head_at_most a y x ys xs p g)

    go :
        x ≡ y → (rises (x + 1) xs ≡ true → rises (x + 1) ys ≡ true → Within xs ys → Within ys xs → xs ≡ ys) →
        x ∷ xs ≡ y ∷ ys
    go e r = rest (r (rises_first a x xs p).1 later (tail_within x xs ys (rises_first a x xs p).1 (rw (← e) at f))
        (tail_within x ys xs later (rw (← e) at g)))
      where
        later : rises (x + 1) ys ≡ true
        later = rw e (rises_first a y ys q).1

        rest : xs ≡ ys → x ∷ xs ≡ y ∷ ys
        rest t = cc

module _ (p : ℕ → Bool) (n : ℕ) (l : List ℕ) where
  -- of a rising list of numbers below n that has each that passes, the same is kept as of all numbers below n
  pub kept_all :
      rises 0 l ≡ true → ((y : ℕ) → has l y ≡ true → y < n) → ((y : ℕ) → y < n → p y ≡ true → has l y ≡ true) →
      keep p l ≡ keep p (up_from 0 n)
  kept_all r b c =
      rising_ext 0 (keep p l) (keep p (up_from 0 n)) (rises_kept p 0 l r) (rises_kept p 0 (up_from 0 n) (rises_up n 0))
      (λ y e. let t = (kept_iff p l y).0 e in (kept_iff p (up_from 0 n) y).1 ((up_iff n y).1 (b y t.0), t.1))
      (λ y e.
      let t = (kept_iff p (up_from 0 n) y).0 e in
      (kept_iff p l y).1 (c y ((up_iff n y).0 t.0) t.1, t.1))

  -- a list of which the same is kept as of all numbers below n has each of them that passes
  pub all_kept : keep p l ≡ keep p (up_from 0 n) → (y : ℕ) → y < n → p y ≡ true → has l y ≡ true
  all_kept q y b c = ((kept_iff p l y).0 (rw q ((kept_iff p (up_from 0 n) y).1 ((up_iff n y).1 b, c)))).0
