-- What is kept of a list by two tests, and of two lists joined.
use Prim.Native.Nat.{ℕ}
use mathlib.Core.Bool.{Bool, true, false}
use mathlib.Core.Path.{◌≡◌, refl}
use mathlib.Core.Logic.{◌⊎◌, inl, inr}
use mathlib.Core.List.{List, [], ◌∷◌, ◌++◌}
use Rattle.facts.specs.Lists.{keep, has}
use Rattle.facts.proofs.Bools.{sure, clash}
use Rattle.facts.proofs.Members.{has_first, has_tail}

-- two tests that agree on each number of a list keep the same of it
pub keep_same :
    (p q : ℕ → Bool) (l : List ℕ) → ((x : ℕ) → has l x ≡ true → p x ≡ q x) → keep p l ≡ keep q l
unfolding keep
keep_same p q [] h = refl
keep_same p q (x ∷ xs) h =
    rw (h x (has_first x xs x refl), keep_same p q xs (λ y e. h y (has_tail x xs y e)))

-- where a number of a list that passes q passes p too, q keeps of what p keeps the same as of the list
pub keep_keep :
    (p q : ℕ → Bool) (l : List ℕ) → ((x : ℕ) → has l x ≡ true → q x ≡ true → p x ≡ true) →
    keep q (keep p l) ≡ keep q l
unfolding keep
keep_keep p q [] h = refl
keep_keep p q (x ∷ xs) h =
    go (sure (p x)) (sure (q x)) (keep_keep p q xs (λ y e. h y (has_tail x xs y e)))
  where
    go :
        (p x ≡ true) ⊎ (p x ≡ false) → (q x ≡ true) ⊎ (q x ≡ false) → keep q (keep p xs) ≡ keep q xs →
        keep q (keep p (x ∷ xs)) ≡ keep q (x ∷ xs)
    go (inl s) (inl t) r = rw (s, t, r)
    go (inl s) (inr t) r = rw (s, t, r)
    go (inr s) (inl t) r = clash (h x (has_first x xs x refl) t) s
    go (inr s) (inr t) r = rw (s, t, r)

-- of one list behind another is kept what is kept of the first, and behind it what is kept of the second
pub keep_append : (p : ℕ → Bool) (xs ys : List ℕ) → keep p (xs ++ ys) ≡ keep p xs ++ keep p ys
unfolding keep
keep_append p [] ys = refl
keep_append p (x ∷ xs) ys = go (sure (p x)) (keep_append p xs ys)
  where
    go :
        (p x ≡ true) ⊎ (p x ≡ false) → keep p (xs ++ ys) ≡ keep p xs ++ keep p ys →
        keep p (x ∷ (xs ++ ys)) ≡ keep p (x ∷ xs) ++ keep p ys
    go (inl t) r = rw (t, r)
    go (inr t) r = rw (t, r)
