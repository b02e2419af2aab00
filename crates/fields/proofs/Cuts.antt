-- Cuts, as the code makes them: when a value divides a box, and which part is then taken.
use Prim.Native.Nat.{ℕ, ◌≤◌, ◌<◌}
use native.Mathlib.Omega.{arith}
use mathlib.Core.Bool.{true, false}
use mathlib.Core.Path.{◌≡◌, sym, ap}
use mathlib.Core.Logic.{◌↔◌}
use mathlib.Core.List.{List, []}
use lib.ListN.{length, get_or, get_or-eq_default}
use lib.Dec.{leb, ltb}
use borrow.Author.Tests.{leb-true, le-leb, ltb-true, lt-ltb}
use Rattle.facts.proofs.Bools.{both, join, clash, fails}
use Rattle.facts.proofs.Cases.{WithinOrOver, at_most, over, within_or_over}
use Rattle.fields.specs.Boxes.{low_of, high_of}
use Rattle.fields.specs.Cuts.{divides, left_of, right_of, left_part, right_part}

module _ (b : List (List ℕ)) (f v : ℕ) where
  -- a value divides a box exactly where it is at least the low end and below the high end
  pub divides_iff : (divides b f v ≡ true) ↔ ((low_of b f ≤ v) × (v < high_of b f))
  unfolding divides
  divides_iff = (
    λ e. let t = both (leb (low_of b f) v) (ltb v (high_of b f)) e in (leb-true _ _ t.0, ltb-true _ _ t.1),
    λ h. join (le-leb _ _ h.0) (lt-ltb _ _ h.1),
  )

  -- nothing divides a box past its last field
  pub past_not_divided : length b ≤ f → false ≡ divides b f v
  past_not_divided l =
      let none : get_or b f [] ≡ [] = get_or-eq_default b [] l in
      let high : high_of b f ≡ 0 = ap (λ (r : List ℕ). get_or r 1 0) none in
      sym (fails (divides b f v) (λ e. omega (arith, (divides_iff.0 e).1)))

  -- a field in which a box is divided is one of the box's
  pub divided_there : {n : ℕ} → length b ≡ n → divides b f v ≡ true → f < n
  divided_there {n} size e = rw (← size) (go (within_or_over (length b) f))
    where
      go : WithinOrOver (length b) f → f < length b
      go (at_most l) = clash e (sym (past_not_divided l))
      go (over l) = l

  -- where the value divides the box, the left part is the left side
  pub left_divided : divides b f v ≡ true → left_part b f v ≡ left_of b f v
  unfolding left_part
  left_divided e = rw e

  -- where the value divides the box, the right part is the right side
  pub right_divided : divides b f v ≡ true → right_part b f v ≡ right_of b f v
  unfolding right_part
  right_divided e = rw e

  -- where it does not, the left part is the box
  pub left_whole : divides b f v ≡ false → left_part b f v ≡ b
  unfolding left_part
  left_whole e = rw e

  -- where it does not, the right part is the box
  pub right_whole : divides b f v ≡ false → right_part b f v ≡ b
  unfolding right_part
  right_whole e = rw e
