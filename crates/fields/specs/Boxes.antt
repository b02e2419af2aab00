-- Boxes: for each of n fields a pair of low and high. Definitions only.
--   low_of b f, high_of b f    the ends of b in field f
--   Pairs n b                b has n pairs
--   Inside n b h             header h lies between the ends of b in each field
--   Full n b                 no field of b is empty
--   meets n a b              in each field a begins no later than b ends, and b no later than a ends
--   root_box                 from 0 to the top of each field
use Rattle.std.specs.Prelude.{ℕ, ◌≤◌, ◌<◌, Bool, ◌≡◌, List, [], ◌∷◌, map, length, get_or}
use Rattle.facts.specs.Below.{all_below}
use Rattle.fields.specs.Words.{tops}
use Rattle.fields.specs.Ranges.{ranges_meet}

abbrev pub low_of : List (List ℕ) → ℕ → ℕ
low_of b f = get_or (get_or b f []) 0 0

abbrev pub high_of : List (List ℕ) → ℕ → ℕ
high_of b f = get_or (get_or b f []) 1 0

pub record Pairs (n : ℕ) (b : List (List ℕ)) : Type 0 where
  pub fields : length b ≡ n
  pub pair : (f : ℕ) → f < n → length (get_or b f []) ≡ 2

abbrev pub Inside : ℕ → List (List ℕ) → List ℕ → Type 0
Inside n b h = (f : ℕ) → f < n → (low_of b f ≤ get_or h f 0) × (get_or h f 0 ≤ high_of b f)

abbrev pub Full : ℕ → List (List ℕ) → Type 0
Full n b = (f : ℕ) → f < n → low_of b f ≤ high_of b f

unfoldable pub meets : ℕ → List (List ℕ) → List (List ℕ) → Bool
meets n a b = all_below n (λ f. ranges_meet (low_of a f) (high_of a f) (low_of b f) (high_of b f))

abbrev pub root_box : List (List ℕ)
root_box = map (λ top. 0 ∷ top ∷ []) tops
