-- A loop that looks for a number in a list: its invariant, for any number and any list.
--   all    the list; rest what the loop has not looked at yet; y the number
use Prim.Native.Nat.{ℕ}
use mathlib.Core.Bool.{true, false}
use mathlib.Core.Path.{◌≡◌, refl, ap, ◌∙◌}
use mathlib.Core.List.{List, [], ◌∷◌}
use borrow.Author.Tests.{eq-eqb, ne_eqb}
use Rattle.facts.specs.Lists.{has}

pub record NotYet (all rest : List ℕ) (y : ℕ) : Type 0 where
  pub left : has all y ≡ has rest y

-- where the loop begins all is left
pub not_yet_first : (all : List ℕ) (y : ℕ) → NotYet all all y
not_yet_first all y = record { left = refl }

module _ {all rest next : List ℕ} {x y : ℕ} (w : NotYet all rest y) (step : rest ≡ x ∷ next) where
  -- the number itself is found
  pub found_here : x ≡ y → has all y ≡ true
  unfolding has
  found_here e = w.left ∙ ap (λ (l : List ℕ). has l y) step ∙ rw (eq-eqb x y e)

  -- another number is passed over
  pub not_yet_step : (x ≡ y → ⊥) → NotYet all next y
  unfolding has
  not_yet_step e = record { left = w.left ∙ ap (λ (l : List ℕ). has l y) step ∙ rw (ne_eqb x y e) }

-- at the end the number is not there
pub not_yet_last : {all rest : List ℕ} {y : ℕ} → NotYet all rest y → rest ≡ [] → has all y ≡ false
unfolding has
not_yet_last {all} {rest} {y} w none = w.left ∙ ap (λ (l : List ℕ). has l y) none
