-- Boxes of any number of fields: two boxes meet exactly where they have a common point.
use Prim.Native.Nat.{ℕ, ◌≤◌, ◌<◌, max}
use native.Mathlib.Nat.{le-max_left, le-max_right, max-le}
use native.Mathlib.Omega.{arith}
use mathlib.Core.Bool.{Bool, true}
use mathlib.Core.Path.{◌≡◌}
use mathlib.Core.Logic.{◌↔◌}
use mathlib.Core.List.{List}
use lib.ListN.{length, get_or}
use Rattle.facts.specs.Lists.{tabulate}
use Rattle.facts.proofs.Below.{all_below_at, all_below_of}
use Rattle.facts.proofs.Tables.{length_tabulate, get_or_tab}
use Rattle.fields.specs.Ranges.{ranges_meet}
use Rattle.fields.specs.Boxes.{low_of, high_of, Inside, Full, meets}
use Rattle.fields.proofs.Ranges.{ranges_meet_iff}

-- in each field a begins no later than b ends, and b no later than a ends
abbrev pub Overlap : ℕ → List (List ℕ) → List (List ℕ) → Type 0
Overlap n a b = (f : ℕ) → f < n → (low_of a f ≤ high_of b f) × (low_of b f ≤ high_of a f)

-- two boxes meet exactly where they overlap in each field
pub overlap_iff : (n : ℕ) (a b : List (List ℕ)) → (meets n a b ≡ true) ↔ Overlap n a b
unfolding meets
overlap_iff n a b = (
  λ e f l. (ranges_meet_iff _ _ _ _).0 (all_below_at n test e f l),
  λ o. all_below_of n test (λ f l. (ranges_meet_iff _ _ _ _).1 (o f l)),
)
  where
    test : ℕ → Bool
    test f = ranges_meet (low_of a f) (high_of a f) (low_of b f) (high_of b f)

-- the point of the greater lows
corner : ℕ → List (List ℕ) → List (List ℕ) → List ℕ
corner n a b = tabulate n (λ f. max (low_of a f) (low_of b f))

module _ (n : ℕ) (a b : List (List ℕ)) (full_a : Full n a) (full_b : Full n b) (o : Overlap n a b) where
  at : (f : ℕ) → f < n → get_or (corner n a b) f 0 ≡ max (low_of a f) (low_of b f)
  unfolding corner
  at f l = get_or_tab n (λ f. max (low_of a f) (low_of b f)) f l

  corner_in_a : Inside n a (corner n a b)
  corner_in_a f l = rw (at f l) (le-max_left _ _, max-le (full_a f l) (o f l).1)

  corner_in_b : Inside n b (corner n a b)
  corner_in_b f l = rw (at f l) (le-max_right _ _, max-le (o f l).0 (full_b f l))

-- a point of two boxes of n fields
pub record CommonPoint (n : ℕ) (a b : List (List ℕ)) : Type 0 where
  pub point : List ℕ
  pub fields : length point ≡ n
  pub in_first : Inside n a point
  pub in_second : Inside n b point

-- two boxes that are not empty meet exactly where they have a common point
pub meets_iff_common_point :
    (n : ℕ) (a b : List (List ℕ)) → Full n a → Full n b → (meets n a b ≡ true) ↔ CommonPoint n a b
unfolding corner
meets_iff_common_point n a b full_a full_b = (
  λ e.
      let o = (overlap_iff n a b).0 e in
      record {
        point = corner n a b;
        fields = length_tabulate n (λ f. max (low_of a f) (low_of b f));
        in_first = corner_in_a n a b full_a full_b o;
        in_second = corner_in_b n a b full_a full_b o;
      },
  λ c. (overlap_iff n a b).1 (λ f l. let p = c.in_first f l in let q = c.in_second f l in (omega arith, omega arith)),
)
