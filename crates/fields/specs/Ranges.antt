-- Ranges: a low and a high end. Definitions only.
--   range_good low high largest   low is at most high, and high at most the largest end
--   range_holds low high x        x lies between the ends, both included
--   ranges_meet low high from to  the range from low to high begins no later than the one from `from` to `to` ends,
--                                 and that one no later than the first ends
use Rattle.std.specs.Prelude.{ℕ, Bool, ◌&&◌, leb}

unfoldable pub range_good : ℕ → ℕ → ℕ → Bool
range_good low high largest = leb low high && leb high largest

unfoldable pub range_holds : ℕ → ℕ → ℕ → Bool
range_holds low high x = leb low x && leb x high

unfoldable pub ranges_meet : ℕ → ℕ → ℕ → ℕ → Bool
ranges_meet low high from to = leb low to && leb from high
