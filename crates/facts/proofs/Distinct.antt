-- A rising list is no longer than a list that has all of its numbers.
--   without x l    l without the first x in it
use Prim.Native.Nat.{ℕ, suc, ◌+◌, ◌≤◌}
use native.Mathlib.Omega.{arith}
use mathlib.Core.Bool.{true, false, cond, false≢true}
use mathlib.Core.Path.{◌≡◌, refl, sym, ap, ◌∙◌}
use mathlib.Core.Logic.{◌⊎◌, inl, inr}
use mathlib.Core.List.{List, [], ◌∷◌}
use lib.ListN.{length}
use lib.Dec.{eqb}
use borrow.Author.Tests.{eqb-true, eqb-false}
use Rattle.facts.specs.Lists.{has, rises}
use Rattle.facts.proofs.Bools.{sure}
use Rattle.facts.proofs.Members.{has_cons, has_first, has_tail}
use Rattle.facts.proofs.Rising.{Within, rises_first, rises_low}

without : ℕ → List ℕ → List ℕ
without x [] = []
without x (y ∷ ys) = cond (eqb y x) ys (y ∷ without x ys)

-- a list that has x is one longer than without it
length_without : (x : ℕ) (l : List ℕ) → has l x ≡ true → length l ≡ suc (length (without x l))
unfolding without has
length_without x [] e = absurd (false≢true e)
length_without x (y ∷ ys) e = go (sure (eqb y x)) (has_cons y ys x e) (length_without x ys)
  where
    go :
        (eqb y x ≡ true) ⊎ (eqb y x ≡ false) → (y ≡ x) ⊎ (has ys x ≡ true) →
        (has ys x ≡ true → length ys ≡ suc (length (without x ys))) →
        suc (length ys) ≡ suc (length (cond (eqb y x) ys (y ∷ without x ys)))
    go (inl t) q r = rw t
    go (inr t) (inl q) r = absurd (eqb-false y x t q)
    go (inr t) (inr q) r = rw t (ap suc (r q))

-- any other number of the list is still there
has_without : (x : ℕ) (l : List ℕ) (y : ℕ) → (y ≡ x → ⊥) → has l y ≡ true → has (without x l) y ≡ true
unfolding without has
has_without x [] y d e = absurd (false≢true e)
has_without x (z ∷ zs) y d e = go (sure (eqb z x)) (has_cons z zs y e) (has_without x zs y d)
  where
    go :
        (eqb z x ≡ true) ⊎ (eqb z x ≡ false) → (z ≡ y) ⊎ (has zs y ≡ true) →
        (has zs y ≡ true → has (without x zs) y ≡ true) → has (cond (eqb z x) zs (z ∷ without x zs)) y ≡ true
    go (inl t) (inl q) r = absurd (d (sym q ∙ eqb-true z x t))
    go (inl t) (inr q) r = rw t q
    go (inr t) (inl q) r = rw t (has_first z (without x zs) y q)
    go (inr t) (inr q) r = rw t (has_tail z (without x zs) y (r q))

-- a rising list is no longer than a list that has all of its numbers
pub rising_no_longer : (a : ℕ) (l m : List ℕ) → rises a l ≡ true → Within l m → length l ≤ length m
rising_no_longer a [] m r w = omega arith
rising_no_longer a (x ∷ xs) m r w =
    let t = rises_first a x xs r in
    let s =
    rising_no_longer (x + 1) xs (without x m) t.1
    (λ y h.
    has_without x m y (λ e. omega (arith, rises_low (x + 1) xs y t.1 h)) (w y (has_tail x xs y h))) in
    omega (arith, length_without x m (w x (has_first x xs x refl)))
