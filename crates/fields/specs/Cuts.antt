-- Cuts: a box that is divided in one field. Definitions only.
--   divides b f v      v is at least b's low and below its high in field f; false past the last field
--   left_of b f v       the left side of a cut: low to v in field f, and b in the others
--   right_of b f v     the right side: v + 1 to high in field f, and b in the others
--   left_part b f v, right_part b f v  the side where v divides b, and b itself where it does not
use Rattle.std.specs.Prelude.{ℕ, ◌+◌, Bool, cond, ◌&&◌, List, [], get_or, set, leb, ltb}
use Rattle.fields.specs.Boxes.{low_of, high_of}

unfoldable pub divides : List (List ℕ) → ℕ → ℕ → Bool
divides b f v = leb (low_of b f) v && ltb v (high_of b f)

unfoldable pub left_of : List (List ℕ) → ℕ → ℕ → List (List ℕ)
left_of b f v = set b f (set (get_or b f []) 1 v)

unfoldable pub right_of : List (List ℕ) → ℕ → ℕ → List (List ℕ)
right_of b f v = set b f (set (get_or b f []) 0 (v + 1))

unfoldable pub left_part : List (List ℕ) → ℕ → ℕ → List (List ℕ)
left_part b f v = cond (divides b f v) (left_of b f v) b

unfoldable pub right_part : List (List ℕ) → ℕ → ℕ → List (List ℕ)
right_part b f v = cond (divides b f v) (right_of b f v) b
