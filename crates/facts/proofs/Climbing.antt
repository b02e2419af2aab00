-- A loop that looks whether a list rises: its invariant.
--   all    the list; rest what the loop has not looked at yet; low the least that the next number may be
use Prim.Native.Nat.{ℕ, ◌+◌, ◌≤◌, ◌<◌}
use mathlib.Core.Bool.{true, false}
use mathlib.Core.Path.{◌≡◌, refl, ◌∙◌}
use mathlib.Core.List.{List, [], ◌∷◌}
use borrow.Author.Tests.{le-leb, lt-leb}
use Rattle.facts.specs.Lists.{rises}

pub record Climbing (all rest : List ℕ) (low : ℕ) : Type 0 where
  pub left : rises 0 all ≡ rises low rest

-- where the loop begins all is left, and any number may come
pub climbing_first : (all : List ℕ) → Climbing all all 0
climbing_first all = record { left = refl }

module _ {all rest next : List ℕ} {low x : ℕ} (w : Climbing all rest low) (step : rest ≡ x ∷ next) where
  -- a number below the least that may come breaks the rise
  pub climbing_falls : x < low → rises 0 all ≡ false
  unfolding rises
  climbing_falls l = w.left ∙ rw (step, lt-leb low x l)

  -- after any other the next must be higher
  pub climbing_step : low ≤ x → Climbing all next (x + 1)
  unfolding rises
  climbing_step l = record { left = w.left ∙ rw (step, le-leb low x l) }

-- at the end the list rises
pub climbing_last : {all rest : List ℕ} {low : ℕ} → Climbing all rest low → rest ≡ [] → rises 0 all ≡ true
unfolding rises
climbing_last w none = w.left ∙ rw none
