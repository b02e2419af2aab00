-- A list rises strictly exactly where each number is below the next.
use Prim.Native.Nat.{ℕ, zero, suc, ◌+◌, ◌≤◌, ◌<◌}
use native.Mathlib.Numerals.{add-one}
use native.Mathlib.Omega.{arith}
use mathlib.Core.Bool.{Bool, true, false}
use mathlib.Core.Path.{◌≡◌, refl, sym}
use mathlib.Core.Logic.{◌⊎◌, inl, inr}
use mathlib.Core.List.{List, [], ◌∷◌}
use lib.ListN.{length, get_or}
use lib.Dec.{ltb}
use borrow.Author.Tests.{ltb-true, lt-ltb}
use Rattle.std.specs.List.{IsAllAdjacentAnswer}
use Rattle.facts.specs.Lists.{rises}
use Rattle.facts.proofs.Bools.{sure, clash}
use Rattle.facts.proofs.Rising.{rises_first, rises_cons}

-- numbers each below the next rise, from any bound of the first
rises_of_next :
    (a : ℕ) (l : List ℕ) → (0 < length l → a ≤ get_or l 0 0) →
    ((k : ℕ) → suc k < length l → get_or l k 0 < get_or l (suc k) 0) → rises a l ≡ true
unfolding rises
rises_of_next a [] h f = refl
rises_of_next a (x ∷ xs) h f =
    rises_cons a x xs (h (omega arith))
    (rises_of_next (x + 1) xs (λ u. omega (arith, f 0 (omega arith))) (λ k u. f (suc k) (omega arith)))

-- of numbers that rise each is below the next
next_of_rises :
    (a : ℕ) (l : List ℕ) → rises a l ≡ true → (k : ℕ) → suc k < length l → get_or l k 0 < get_or l (suc k) 0
next_of_rises a [] e k u = absurd (omega arith)
next_of_rises a (x ∷ []) e zero u = absurd (omega arith)
next_of_rises a (x ∷ (y ∷ ys)) e zero u =
    omega (arith, (rises_first (x + 1) y ys (rises_first a x (y ∷ ys) e).1).0)
next_of_rises a (x ∷ xs) e (suc k) u = next_of_rises (x + 1) xs (rises_first a x xs e).1 k (omega arith)

-- what says of each number and the next whether they are in order says whether the list rises
pub sorted_is_rising : (l : List ℕ) (r : Bool) → IsAllAdjacentAnswer (λ x y b. b ≡ ltb x y) l r → r ≡ rises 0 l
sorted_is_rising l true h =
    sym (rises_of_next 0 l (λ u. omega arith) (λ k u. rw (← add-one k) (ltb-true _ _ (sym (h k 0 (omega arith))))))
sorted_is_rising l false h = go (sure (rises 0 l))
  where
    go : (rises 0 l ≡ true) ⊎ (rises 0 l ≡ false) → false ≡ rises 0 l
    go (inl t) = clash (lt-ltb _ _ (rw (add-one h.0) (next_of_rises 0 l t h.0 (omega (arith, h.1))))) (sym (h.2 0))
    go (inr t) = sym t
