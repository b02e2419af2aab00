-- Places: the one after some bytes, and the one at which what is left of a text begins.
use Prim.Native.Nat.{ℕ, ◌+◌, ◌≤◌, ◌<◌, ◌^◌}
use native.Mathlib.Omega.{arith}
use mathlib.Core.Path.{◌≡◌, sym, ap, ◌∙◌}
use mathlib.Core.List.{List}
use lib.ListN.{length, drop, length-drop, drop_of_length-le}
use borrow.Author.Tests.{lt-ltb, le-ltb}
use Rattle.facts.proofs.Cases.{WithinOrOver, within_or_over, at_most, over}
use Rattle.text.specs.Places.{highest, within, place_after, place_in}

-- a place that is near enough stays
pub within_near : (at size : ℕ) → at ≤ size → within at size ≡ at
unfolding within
within_near at size l = rw (le-ltb size at l)

-- a place that is too far is the size
pub within_far : (at size : ℕ) → size < at → within at size ≡ size
unfolding within
within_far at size l = rw (lt-ltb size at l)

-- after so few bytes the place is their number further on
pub after_few : (at n : ℕ) → at + n < 2 ^ 64 → place_after at n ≡ at + n
unfolding place_after
after_few at n l = within_near (at + n) highest (omega arith)

-- after too many bytes it is the highest
pub after_many : (at n : ℕ) → highest < at + n → place_after at n ≡ highest
unfolding place_after
after_many at n l = within_far (at + n) highest l

-- after no bytes the place is the same
pub after_none : (at : ℕ) → at < 2 ^ 64 → place_after at 0 ≡ at
after_none at l = let e : at + 0 ≡ at = omega arith in after_few at 0 (omega arith) ∙ e

-- after the highest place there is none
pub after_highest : (n : ℕ) → place_after highest n ≡ highest
after_highest n = go (within_or_over (highest + n) highest)
  where
    go : WithinOrOver (highest + n) highest → place_after highest n ≡ highest
    go (at_most l) = let e : highest + n ≡ highest = omega arith in after_few highest n (omega arith) ∙ e
    go (over l) = after_many highest n l

moved : (at m n : ℕ) → place_after (at + m) n ≡ place_after at (m + n)
unfolding place_after
moved at m n = let e : (at + m) + n ≡ at + (m + n) = omega arith in ap (λ (k : ℕ). within k highest) e

-- after some bytes and then others the place is the one after all of them
pub after_then : (at m n : ℕ) → place_after (place_after at m) n ≡ place_after at (m + n)
after_then at m n = go (within_or_over (at + m) highest)
  where
    go : WithinOrOver (at + m) highest → place_after (place_after at m) n ≡ place_after at (m + n)
    go (at_most l) = rw (after_few at m (omega arith)) (moved at m n)
    go (over l) = rw (after_many at m l, after_many at (m + n) (omega arith)) (after_highest n)

-- what is left from a place on begins there
pub place_left : (s : List ℕ) (at : ℕ) → at ≤ length s → place_in s (drop at s) ≡ at
unfolding place_in
place_left s at l = simp length-drop (omega arith)

-- a place past the end leaves what its nearest place leaves
pub drop_within : (s : List ℕ) (at : ℕ) → drop (within at (length s)) s ≡ drop at s
drop_within s at = go (within_or_over at (length s))
  where
    go : WithinOrOver at (length s) → drop (within at (length s)) s ≡ drop at s
    go (at_most l) = rw (within_near at (length s) l)
    go (over l) =
        rw (within_far at (length s) l, drop_of_length-le s {i = length s} (omega arith))
        (sym (drop_of_length-le s {i = at} (omega arith)))

-- the nearest place is within the text
pub within_in : (at size : ℕ) → within at size ≤ size
within_in at size = go (within_or_over at size)
  where
    go : WithinOrOver at size → within at size ≤ size
    go (at_most l) = rw (within_near at size l) l
    go (over l) = rw (within_far at size l) (omega arith)
