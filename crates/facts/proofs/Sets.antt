-- Lists written into lent words: the order of two whose places lie apart does not matter; one that is written from the
-- front on; and what is left out for want of room.
use Prim.Native.Nat.{ℕ, suc, ◌+◌, ◌-◌, ◌≤◌, ◌<◌, min}
use native.Mathlib.Nat.{zero-add, min-eq_left, min-eq_right}
use native.Mathlib.Omega.{arith}
use mathlib.Core.Path.{◌≡◌, refl, sym, ap, ◌∙◌}
use mathlib.Core.List.{List, [], ◌∷◌}
use lib.ListN.{length, take, drop, set, take-append-drop}
use lib.Seq.{sets, sets-eq, length-sets, set_comm, set_out, take-length, length-take-le}
use Rattle.facts.specs.Lists.{written}
use Rattle.facts.proofs.Cases.{WithinOrOver, within_or_over, at_most, over}
use Rattle.facts.proofs.Setting.{sets_append}

-- one number put before the place from which a list is written may be put first
pub set_before_sets :
    (ys l : List ℕ) (i j x : ℕ) → i < j → set (sets l j ys) i x ≡ sets (set l i x) j ys
set_before_sets [] l i j x h = refl
set_before_sets (y ∷ ys) l i j x h =
    set_before_sets ys (set l j y) i (suc j) x (omega arith) ∙
    ap (λ (k : List ℕ). sets k (suc j) ys) (set_comm l j i y x (λ e. omega arith))

-- a list that ends before the place from which another is written may be written first
pub sets_apart :
    (l : List ℕ) (i j : ℕ) (xs ys : List ℕ) → i + length xs ≤ j →
    sets (sets l j ys) i xs ≡ sets (sets l i xs) j ys
sets_apart l i j xs ys h = go xs l i h
  where
    go :
        (xs l : List ℕ) (i : ℕ) → i + length xs ≤ j → sets (sets l j ys) i xs ≡ sets (sets l i xs) j ys
    go [] l i h = refl
    go (x ∷ xs) l i h =
        ap (λ (k : List ℕ). sets k (suc i) xs) (set_before_sets ys l i j x (omega arith)) ∙
        go xs (set l i x) (suc i) (omega arith)

-- a list that has room is written from the front on, and the rest is as found
pub sets_front : (l xs : List ℕ) → length xs ≤ length l → sets l 0 xs ≡ written xs l
unfolding written
sets_front l xs h = sets-eq xs l 0 (omega arith) ∙ rw zero-add

-- a list written from a place past the end changes nothing
pub sets_past : (ys l : List ℕ) (i : ℕ) → length l ≤ i → sets l i ys ≡ l
sets_past [] l i h = refl
sets_past (y ∷ ys) l i h = rw (set_out l i y h) (sets_past ys l (suc i) (omega arith))

-- of a list that is written, the numbers for which there is no room may be left out
pub sets_room :
    (l xs : List ℕ) (at : ℕ) → sets l at (take (min (length xs) (length l - at)) xs) ≡ sets l at xs
sets_room l xs at = by (within_or_over (length xs) (length l - at))
  where
    by :
        WithinOrOver (length xs) (length l - at) →
        sets l at (take (min (length xs) (length l - at)) xs) ≡ sets l at xs
    by (at_most h) = rw (min-eq_left h, take-length)
    by (over h) =
        let n : ℕ = length l - at in
        let size : length (take n xs) ≡ n = length-take-le n xs (omega arith) in
        let past : length (sets l at (take n xs)) ≤ at + length (take n xs) =
        omega (arith, size, length-sets l at (take n xs)) in
        let less : n ≤ length xs = omega arith in
        rw (min-eq_right less)
        (sym
        (ap (sets l at) (sym (take-append-drop n xs)) ∙ sets_append l at (take n xs) (drop n xs) ∙
        sets_past (drop n xs) (sets l at (take n xs)) (at + length (take n xs)) past))
