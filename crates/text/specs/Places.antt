-- Places and counts that cannot run over. Definitions only.
--   highest            the highest place or count there is
--   within at size     at, or size where that is nearer
--   place_after at n   the place n bytes after at; the highest stands for all beyond it
--   following n        the place after n
--   place_in s rest     where what is left of the text s begins
use Rattle.std.specs.Prelude.{ℕ, ◌+◌, ◌-◌, cond, List, length, ltb}

abbrev pub highest : ℕ
highest = 18446744073709551615

unfoldable pub within : ℕ → ℕ → ℕ
within at size = cond (ltb size at) size at

unfoldable pub place_after : ℕ → ℕ → ℕ
place_after at n = within (at + n) highest

abbrev pub following : ℕ → ℕ
following n = place_after n 1

unfoldable pub place_in : List ℕ → List ℕ → ℕ
place_in s rest = length s - length rest
