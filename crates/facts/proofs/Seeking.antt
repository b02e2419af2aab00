-- A loop that looks for the first that is kept of a list: its invariant, for any test and any list.
--   all    the list; rest what the loop has not looked at yet
use Prim.Native.Nat.{ℕ}
use mathlib.Core.Bool.{Bool, true, false}
use mathlib.Core.Path.{◌≡◌, refl, ◌∙◌}
use mathlib.Core.List.{List, [], ◌∷◌}
use Rattle.facts.specs.Lists.{keep}
use Rattle.facts.proofs.Steps.{keep_none, keep_in, keep_out}

pub record NoneYet (p : ℕ → Bool) (all rest : List ℕ) : Type 0 where
  pub left : keep p all ≡ keep p rest

-- where the loop begins all is left
pub none_first : (p : ℕ → Bool) (all : List ℕ) → NoneYet p all all
none_first p all = record { left = refl }

module _ {p : ℕ → Bool} {all rest next : List ℕ} {x : ℕ} (w : NoneYet p all rest) (step : rest ≡ x ∷ next) where
  -- a number that passes is the first that is kept
  pub first_found : p x ≡ true → keep p all ≡ x ∷ keep p next
  first_found t = w.left ∙ keep_in p x step t

  -- a number that fails is passed over
  pub none_step : p x ≡ false → NoneYet p all next
  none_step t = record { left = w.left ∙ keep_out p x step t }

-- at the end nothing is kept
pub none_last : {p : ℕ → Bool} {all rest : List ℕ} → NoneYet p all rest → rest ≡ [] → keep p all ≡ []
none_last {p} w none = w.left ∙ keep_none p none
