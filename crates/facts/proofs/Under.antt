-- Numbers of a list that are all below another: the steps of a loop that looks at each, and what the test says.
--   all    the list; rest what the loop has not looked at yet
use Prim.Native.Nat.{ℕ, zero, suc, ◌≤◌, ◌<◌}
use native.Mathlib.Nat.{le_of_suc-le-suc, not-suc-le-zero}
use native.Mathlib.Omega.{arith}
use mathlib.Core.Bool.{true, false, false≢true}
use mathlib.Core.Path.{◌≡◌, refl, ap, ◌∙◌}
use mathlib.Core.Logic.{◌⊎◌, inl, inr, ◌↔◌}
use mathlib.Core.List.{List, [], ◌∷◌}
use lib.ListN.{length, get_or}
use lib.Dec.{ltb}
use borrow.Author.Tests.{ltb-true, lt-ltb, le-ltb}
use Rattle.facts.specs.Lists.{has, all_under}
use Rattle.facts.proofs.Bools.{both, join}
use Rattle.facts.proofs.Members.{has_cons, has_first, has_tail}

pub record UnderYet (n : ℕ) (all rest : List ℕ) : Type 0 where
  pub left : all_under n all ≡ all_under n rest

-- where the loop begins all is left
pub under_first : (n : ℕ) (all : List ℕ) → UnderYet n all all
under_first n all = record { left = refl }

module _ {n : ℕ} {all rest next : List ℕ} {x : ℕ} (w : UnderYet n all rest) (step : rest ≡ x ∷ next) where
  -- a number below n leaves the decision to those after it
  pub under_step : x < n → UnderYet n all next
  unfolding all_under
  under_step l = record { left = w.left ∙ ap (all_under n) step ∙ rw (lt-ltb x n l) }

  -- a number that is not below n decides
  pub under_over : n ≤ x → all_under n all ≡ false
  unfolding all_under
  under_over l = w.left ∙ ap (all_under n) step ∙ rw (le-ltb x n l)

-- at the end all are below n
pub under_last : {n : ℕ} {all rest : List ℕ} → UnderYet n all rest → rest ≡ [] → all_under n all ≡ true
unfolding all_under
under_last {n} w none = w.left ∙ ap (all_under n) none

-- ---- what the test says

-- where all of a list are below n, its head and all of its tail are
under_cons : (n x : ℕ) (xs : List ℕ) → all_under n (x ∷ xs) ≡ true → (x < n) × (all_under n xs ≡ true)
unfolding all_under
under_cons n x xs e = let t = both (ltb x n) (all_under n xs) e in (ltb-true x n t.0, t.1)

-- where a head and all of its tail are below n, all are
cons_under : (n x : ℕ) (xs : List ℕ) → x < n → all_under n xs ≡ true → all_under n (x ∷ xs) ≡ true
unfolding all_under
cons_under n x xs l e = join (lt-ltb x n l) e

under_at : (n : ℕ) (l : List ℕ) → all_under n l ≡ true → (j : ℕ) → j < length l → get_or l j 0 < n
under_at n [] e j h = absurd (not-suc-le-zero h)
under_at n (x ∷ xs) e zero h = (under_cons n x xs e).0
under_at n (x ∷ xs) e (suc j) h = under_at n xs (under_cons n x xs e).1 j (le_of_suc-le-suc h)

under_of_has : (n : ℕ) (l : List ℕ) (y : ℕ) → all_under n l ≡ true → has l y ≡ true → y < n
unfolding has
under_of_has n [] y e h = absurd (false≢true h)
under_of_has n (x ∷ xs) y e h = go (has_cons x xs y h) (under_of_has n xs y (under_cons n x xs e).1)
  where
    go : (x ≡ y) ⊎ (has xs y ≡ true) → (has xs y ≡ true → y < n) → y < n
    go (inl q) r = omega (arith, (under_cons n x xs e).0)
    go (inr q) r = r q

under_of : (n : ℕ) (l : List ℕ) → ((j : ℕ) → j < length l → get_or l j 0 < n) → all_under n l ≡ true
unfolding all_under
under_of n [] f = refl
under_of n (x ∷ xs) f =
    cons_under n x xs (f 0 (omega arith)) (under_of n xs (λ j l. f (suc j) (omega arith)))

under_of_each : (n : ℕ) (l : List ℕ) → ((y : ℕ) → has l y ≡ true → y < n) → all_under n l ≡ true
unfolding all_under
under_of_each n [] f = refl
under_of_each n (x ∷ xs) f =
    cons_under n x xs (f x (has_first x xs x refl)) (under_of_each n xs (λ y h. f y (has_tail x xs y h)))

-- all of a list are below n exactly where the number at each place is
pub all_under_iff_at : (n : ℕ) (l : List ℕ) → (all_under n l ≡ true) ↔ ((j : ℕ) → j < length l → get_or l j 0 < n)
all_under_iff_at n l = (λ e j h. under_at n l e j h, λ f. under_of n l f)

-- all of a list are below n exactly where each number that stands in it is
pub all_under_iff_has : (n : ℕ) (l : List ℕ) → (all_under n l ≡ true) ↔ ((y : ℕ) → has l y ≡ true → y < n)
all_under_iff_has n l = (λ e y h. under_of_has n l y e h, λ f. under_of_each n l f)
