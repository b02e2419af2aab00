-- Where a box is cut, by the ends of the boxes that meet it. Definitions only.
--   ends_at a f v            v is the high of box a in field f, or its low less one; a low of 0 gives no such v
--   cuts_at n boxes b f v   some box that meets b ends at v in field f
--   cut_values n boxes b f  the cut values of field f in box b: the numbers from its low to below its high at which
--                           some box that meets b ends; rising, each once
--   cut_count n boxes b f   how many there are
--   has_most n boxes b f    no field has more cut values than field f
--   chosen_field n boxes b  the field with the most cut values, and the lowest of those that have as many
--   chosen_value n boxes b  of its M cut values the one at place M / 2, rounded down, from 0
--   most_in_leaf            the most rules that are not parted further
--   stops n boxes b         no more than these meet b, or no field has a cut value
use Rattle.std.specs.Prelude.{ℕ, ◌+◌, ◌-◌, ◌/◌, Bool, ◌||◌, List, length, get_or, leb, eqb}
use Rattle.facts.specs.Below.{all_below, lowest}
use Rattle.facts.specs.Lists.{up_from, keep, any_of}
use Rattle.fields.specs.Boxes.{low_of, high_of}
use Rattle.built.specs.Boxes.{box_of, meeting}

unfoldable pub ends_at : List (List ℕ) → ℕ → ℕ → Bool
ends_at a f v = eqb (high_of a f) v || eqb (low_of a f) (v + 1)

unfoldable pub cuts_at : ℕ → List (List (List ℕ)) → List (List ℕ) → ℕ → ℕ → Bool
cuts_at n boxes b f v = any_of (λ r. ends_at (box_of boxes r) f v) (meeting n boxes b)

unfoldable pub cut_values : ℕ → List (List (List ℕ)) → List (List ℕ) → ℕ → List ℕ
cut_values n boxes b f = keep (cuts_at n boxes b f) (up_from (low_of b f) (high_of b f - low_of b f))

abbrev pub cut_count : ℕ → List (List (List ℕ)) → List (List ℕ) → ℕ → ℕ
cut_count n boxes b f = length (cut_values n boxes b f)

unfoldable pub has_most : ℕ → List (List (List ℕ)) → List (List ℕ) → ℕ → Bool
has_most n boxes b f = all_below n (λ g. leb (cut_count n boxes b g) (cut_count n boxes b f))

unfoldable pub chosen_field : ℕ → List (List (List ℕ)) → List (List ℕ) → ℕ
chosen_field n boxes b = lowest n 0 (has_most n boxes b)

unfoldable pub chosen_value : ℕ → List (List (List ℕ)) → List (List ℕ) → ℕ
chosen_value n boxes b =
    let f = chosen_field n boxes b in get_or (cut_values n boxes b f) (cut_count n boxes b f / 2) 0

abbrev pub most_in_leaf : ℕ
most_in_leaf = 8

unfoldable pub stops : ℕ → List (List (List ℕ)) → List (List ℕ) → Bool
stops n boxes b =
    leb (length (meeting n boxes b)) most_in_leaf || eqb (cut_count n boxes b (chosen_field n boxes b)) 0
