-- Lists of numbers. Definitions only.
--   up_from i m     the m numbers from i on: i, i + 1, ..
--   tabulate n g   the n numbers g 0, g 1, ..
--   keep p l       the numbers of l of which p holds, in l's order, each as often as it stands there
--   has l y        y stands in l
--   any_of p l      p holds of some number of l; false of the empty list
--   rises a l      l rises strictly, and its first number is at least a; true of the empty list
--   all_under n l  every number of l is below n; true of the empty list
--   written new found    lent words that held found, once new was written from their front on: the rest is as found
--   Kept p l before n after    what p keeps of l is stored from the front of lent words on, as far as there is room,
--                  and the rest is as found; n is how many numbers that is
use Rattle.std.specs.Prelude.{ℕ, zero, suc, ◌+◌, Bool, true, false, cond, ◌&&◌, ◌||◌, ◌≡◌, List, [], ◌∷◌, ◌++◌, length, drop, leb, ltb, eqb}
use Rattle.std.proofs.lemmas.List.Edits.{sets}

unfoldable pub up_from : ℕ → ℕ → List ℕ
up_from i zero = []
up_from i (suc m) = i ∷ up_from (i + 1) m

unfoldable pub tabulate : ℕ → (ℕ → ℕ) → List ℕ
tabulate zero g = []
tabulate (suc n) g = g 0 ∷ tabulate n (λ i. g (suc i))

unfoldable pub keep : (ℕ → Bool) → List ℕ → List ℕ
keep p [] = []
keep p (x ∷ xs) = cond (p x) (x ∷ keep p xs) (keep p xs)

unfoldable pub has : List ℕ → ℕ → Bool
has [] y = false
has (x ∷ xs) y = eqb x y || has xs y

unfoldable pub any_of : (ℕ → Bool) → List ℕ → Bool
any_of p [] = false
any_of p (x ∷ xs) = p x || any_of p xs

unfoldable pub rises : ℕ → List ℕ → Bool
rises a [] = true
rises a (x ∷ xs) = leb a x && rises (x + 1) xs

unfoldable pub all_under : ℕ → List ℕ → Bool
all_under n [] = true
all_under n (x ∷ xs) = ltb x n && all_under n xs

unfoldable pub written : List ℕ → List ℕ → List ℕ
written new found = new ++ drop (length new) found

pub record Kept (p : ℕ → Bool) (l before : List ℕ) (n : ℕ) (after : List ℕ) : Type 0 where
  pub counts : n ≡ length (keep p l)
  pub stores : after ≡ sets before 0 (keep p l)
