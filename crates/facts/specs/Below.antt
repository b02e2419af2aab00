-- Tests of the numbers below another. Definitions only.
--   all_below n p    p holds of 0, 1, .. up to n - 1; true where n is 0
--   lowest m i p    the lowest of the m numbers from i on of which p holds; i + m where there is none
use Rattle.std.specs.Prelude.{ℕ, zero, suc, ◌+◌, Bool, true, cond, ◌&&◌}

unfoldable pub all_below : ℕ → (ℕ → Bool) → Bool
all_below zero p = true
all_below (suc n) p = all_below n p && p n

unfoldable pub lowest : ℕ → ℕ → (ℕ → Bool) → ℕ
lowest zero i p = i
lowest (suc m) i p = cond (p i) i (lowest m (i + 1) p)
