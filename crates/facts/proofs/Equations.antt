-- What is fixed by an equation.
use mathlib.Core.Path.{◌≡◌, sym, ◌∙◌}

-- what is fixed by an equation has one value
pub equation_unique : {A : Type 0} {x r s : A} → r ≡ x → s ≡ x → r ≡ s
equation_unique p q = p ∙ sym q
