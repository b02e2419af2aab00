-- Writing a list into lent words from a place on, one number after another; and lists whose length is known.
use Prim.Native.Nat.{ℕ, zero, suc, ◌+◌, ◌<◌}
use native.Mathlib.Nat.{add-zero}
use native.Mathlib.Numerals.{add-one}
use native.Mathlib.Omega.{arith}
use mathlib.Core.Path.{◌≡◌, refl, ap, ◌∙◌}
use mathlib.Core.List.{List, [], ◌∷◌, ◌++◌}
use lib.ListN.{length, get_or, take, drop, set}
use lib.Seq.{sets, take-suc, take_at, drop_at, length-take-le}
use Rattle.facts.specs.Lists.{tabulate, written}

-- writing one list behind another is writing the two as one
pub sets_append : (l : List ℕ) (i : ℕ) (xs ys : List ℕ) → sets l i (xs ++ ys) ≡ sets (sets l i xs) (i + length xs) ys
sets_append l i [] ys = rw add-zero
sets_append l i (x ∷ xs) ys =
    let e : i + suc (length xs) ≡ suc i + length xs = omega arith in
    rw e (sets_append (set l i x) (suc i) xs ys)

-- where the first j numbers of r are written from a place on, writing the next makes it the first j + 1
pub sets_more :
    (l m r : List ℕ) (at j : ℕ) → m ≡ sets l at (take j r) → j < length r →
    set m (at + j) (get_or r j 0) ≡ sets l at (take (j + 1) r)
sets_more l m r at j e h =
    let k : length (take j r) ≡ j = length-take-le j r (omega arith) in
    rw (add-one, take-suc r j 0 h, sets_append l at (take j r) (get_or r j 0 ∷ []), k, e)

-- a list of length 0 is the empty list
pub nil_of : (l : List ℕ) → length l ≡ 0 → l ≡ []
nil_of [] e = refl
nil_of (x ∷ l) e = absurd (omega arith)

-- nothing in front of a list leaves it as it is
pub none_before : (kept l : List ℕ) → length kept ≡ 0 → kept ++ l ≡ l
none_before kept l e = ap (λ (k : List ℕ). k ++ l) (nil_of kept e)

-- a list of length n is the table of what stands at its places
pub cells : (n : ℕ) (l : List ℕ) → length l ≡ n → l ≡ tabulate n (λ i. get_or l i 0)
unfolding tabulate
cells zero [] e = refl
cells zero (x ∷ l) e = absurd (omega arith)
cells (suc n) [] e = absurd (omega arith)
cells (suc n) (x ∷ l) e = ap (λ (r : List ℕ). x ∷ r) (cells n l (omega arith))

-- where a list of n numbers is written in front, the first n are that list
pub written_front : (new found : List ℕ) (n : ℕ) → length new ≡ n → take n (written new found) ≡ new
unfolding written
written_front new found n l = take_at new (drop (length new) found) n l

-- and those behind them are as found
pub written_behind : (new found : List ℕ) (n : ℕ) → length new ≡ n → drop n (written new found) ≡ drop n found
unfolding written
written_behind new found n l = drop_at new (drop (length new) found) n l ∙ ap (λ (k : ℕ). drop k found) l
