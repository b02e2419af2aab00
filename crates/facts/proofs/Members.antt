-- What stands in a list: in numbers counted up, and in what is kept of a list.
use Prim.Native.Nat.{ℕ, zero, suc, ◌+◌, ◌≤◌, ◌<◌}
use native.Mathlib.Omega.{arith}
use mathlib.Core.Bool.{Bool, true, false, false≢true}
use mathlib.Core.Path.{◌≡◌, refl}
use mathlib.Core.Logic.{◌⊎◌, inl, inr, ◌↔◌}
use mathlib.Core.List.{List, [], ◌∷◌}
use lib.Dec.{eqb}
use borrow.Author.Tests.{eqb-true, eq-eqb}
use Rattle.facts.specs.Lists.{up_from, keep, has}
use Rattle.facts.proofs.Bools.{clash}
use Rattle.facts.proofs.Cases.{Order, below, same, above, order}

-- what stands in a list is its head or stands in its tail
pub has_cons : (x : ℕ) (xs : List ℕ) (y : ℕ) → has (x ∷ xs) y ≡ true → (x ≡ y) ⊎ (has xs y ≡ true)
unfolding has
has_cons x xs y e = go (eqb x y) refl
  where
    go : (b : Bool) → eqb x y ≡ b → (x ≡ y) ⊎ (has xs y ≡ true)
    go true t = inl (eqb-true x y t)
    go false t = inr (rw t at e)

-- the head stands in the list
pub has_first : (x : ℕ) (xs : List ℕ) (y : ℕ) → x ≡ y → has (x ∷ xs) y ≡ true
unfolding has
has_first x xs y q = rw (eq-eqb x y q)

-- what stands in the tail stands in the list
pub has_tail : (x : ℕ) (xs : List ℕ) (y : ℕ) → has xs y ≡ true → has (x ∷ xs) y ≡ true
unfolding has
has_tail x xs y e = go (eqb x y) refl
  where
    go : (b : Bool) → eqb x y ≡ b → has (x ∷ xs) y ≡ true
    go true t = rw t
    go false t = rw t e

-- what is kept passes, and stands in the list
pub has_of_kept : (p : ℕ → Bool) (l : List ℕ) (y : ℕ) → has (keep p l) y ≡ true → (has l y ≡ true) × (p y ≡ true)
unfolding keep has
has_of_kept p [] y e = absurd (false≢true e)
has_of_kept p (x ∷ xs) y e = go (p x) refl (λ r. has_of_kept p xs y r)
  where
    go :
        (b : Bool) → p x ≡ b → (has (keep p xs) y ≡ true → (has xs y ≡ true) × (p y ≡ true)) →
        (has (x ∷ xs) y ≡ true) × (p y ≡ true)
    go true t r = two (has_cons x (keep p xs) y (rw (t, keep) at e))
      where
        two : (x ≡ y) ⊎ (has (keep p xs) y ≡ true) → (has (x ∷ xs) y ≡ true) × (p y ≡ true)
        two (inl q) = (has_first x xs y q, rw (← q) t)
        two (inr q) = (has_tail x xs y (r q).0, (r q).1)
    go false t r = let q : has (keep p xs) y ≡ true = rw (t, keep) at e in (has_tail x xs y (r q).0, (r q).1)

-- what passes and stands in the list is kept
pub kept_of_has : (p : ℕ → Bool) (l : List ℕ) (y : ℕ) → has l y ≡ true → p y ≡ true → has (keep p l) y ≡ true
unfolding keep has
kept_of_has p [] y e c = absurd (false≢true e)
kept_of_has p (x ∷ xs) y e c = go (p x) refl (λ r. kept_of_has p xs y r c) (has_cons x xs y e)
  where
    go :
        (b : Bool) → p x ≡ b → (has xs y ≡ true → has (keep p xs) y ≡ true) → (x ≡ y) ⊎ (has xs y ≡ true) →
        has (keep p (x ∷ xs)) y ≡ true
    go true t r (inl q) = rw (t, keep) (has_first x (keep p xs) y q)
    go true t r (inr q) = rw (t, keep) (has_tail x (keep p xs) y (r q))
    go false t r (inl q) = clash c (rw (← q) t)
    go false t r (inr q) = rw (t, keep) (r q)

-- a number is kept exactly where it stands in the list and passes
pub kept_iff : (p : ℕ → Bool) (l : List ℕ) (y : ℕ) → (has (keep p l) y ≡ true) ↔ ((has l y ≡ true) × (p y ≡ true))
kept_iff p l y = (λ e. has_of_kept p l y e, λ h. kept_of_has p l y h.0 h.1)

-- what stands in numbers counted up lies between the ends
pub has_of_up : (m i y : ℕ) → has (up_from i m) y ≡ true → (i ≤ y) × (y < i + m)
unfolding up_from has
has_of_up zero i y e = absurd (false≢true e)
has_of_up (suc m) i y e = go (has_cons i (up_from (i + 1) m) y e) (λ r. has_of_up m (i + 1) y r)
  where
    go :
        (i ≡ y) ⊎ (has (up_from (i + 1) m) y ≡ true) →
        (has (up_from (i + 1) m) y ≡ true → (i + 1 ≤ y) × (y < i + 1 + m)) →
        (i ≤ y) × (y < i + suc m)
    go (inl q) r = (omega arith, omega arith)
    go (inr q) r = let z = r q in (omega arith, omega arith)

-- what lies between the ends stands in numbers counted up
pub up_has : (m i y : ℕ) → i ≤ y → y < i + m → has (up_from i m) y ≡ true
unfolding up_from has
up_has zero i y l u = absurd (omega arith)
up_has (suc m) i y l u = go (order i y) (λ k. up_has m (i + 1) y k (omega arith))
  where
    go : Order i y → (i + 1 ≤ y → has (up_from (i + 1) m) y ≡ true) → has (up_from i (suc m)) y ≡ true
    go (same q) r = has_first i (up_from (i + 1) m) y q
    go (below k) r = has_tail i (up_from (i + 1) m) y (r (omega arith))
    go (above k) r = absurd (omega arith)

-- a number stands in the first n numbers exactly where it is below n
pub up_iff : (n y : ℕ) → (has (up_from 0 n) y ≡ true) ↔ (y < n)
up_iff n y = (λ e. let h = has_of_up n 0 y e in omega arith, λ l. up_has n 0 y (omega arith) (omega arith))
