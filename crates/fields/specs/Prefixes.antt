-- Prefixes of addresses of w bits: an address and a length. Definitions only.
--   span w len                   how many addresses share a prefix of that length
--   prefix_good w address len    the length is at most w, and the bits past it are zero
--   prefix_agrees w address len x    the first len bits of address and x agree; a length over w agrees with nothing
--   prefix_ends w address len    the range of a good prefix: from address up to address + 2^(w - len) - 1
--   prefix_last w address len    the end of that range, or the largest address where it would lie past it; for any
--                                address and length
--   prefix_meets w address len from to   that range meets the one from `from` to `to`; for any address and length
use Rattle.std.specs.Prelude.{ℕ, ◌+◌, ◌-◌, ◌/◌, ◌%◌, ◌^◌, min, Bool, ◌&&◌, List, [], ◌∷◌, leb, eqb}
use Rattle.fields.specs.Ranges.{ranges_meet}

unfoldable pub span : ℕ → ℕ → ℕ
span w len = 2 ^ (w - len)

unfoldable pub prefix_good : ℕ → ℕ → ℕ → Bool
prefix_good w address len = leb len w && eqb (address % span w len) 0

unfoldable pub prefix_agrees : ℕ → ℕ → ℕ → ℕ → Bool
prefix_agrees w address len x = leb len w && eqb (address / span w len) (x / span w len)

unfoldable pub prefix_ends : ℕ → ℕ → ℕ → List ℕ
prefix_ends w address len = address ∷ (address + span w len - 1) ∷ []

unfoldable pub prefix_last : ℕ → ℕ → ℕ → ℕ
prefix_last w address len = min (address + span w len - 1) (2 ^ w - 1)

unfoldable pub prefix_meets : ℕ → ℕ → ℕ → ℕ → ℕ → Bool
prefix_meets w address len from to = ranges_meet address (address + span w len - 1) from to
