-- Numbers behind tabs, as they are put one after another.
--   tabbed_to vs j    the first j of the numbers vs, each behind a tab
use Prim.Native.Nat.{ℕ, zero, suc, ◌+◌, ◌≤◌, ◌<◌}
use native.Mathlib.Omega.{arith}
use mathlib.Core.Path.{◌≡◌, refl, sym, ap, ◌∙◌}
use mathlib.Core.List.{List, [], ◌∷◌, ◌++◌}
use lib.ListN.{length, get_or, take, replicate, length-replicate}
use Rattle.text.specs.Words.{tab}
use Rattle.text.specs.Numbers.{digits_of}
use Rattle.text.specs.Line.{print_fields}
use Rattle.text.proofs.Puts.{fields_more, fields_spent}

-- each separator of so many tabs is a tab
tab_at : (n j : ℕ) → j < n → get_or (replicate n tab) j 0 ≡ tab
tab_at zero j h = absurd (omega arith)
tab_at (suc n) zero h = refl
tab_at (suc n) (suc j) h = tab_at n j (omega arith)

unfoldable pub tabbed_to : List ℕ → ℕ → List ℕ
tabbed_to vs j = print_fields (take j (replicate (length vs) tab)) (take j vs)

-- no numbers
pub tabbed_none : (vs : List ℕ) → [] ≡ tabbed_to vs 0
unfolding tabbed_to print_fields
tabbed_none vs = refl

-- one number more
pub tabbed_more :
    (vs : List ℕ) (j : ℕ) → j < length vs → tabbed_to vs j ++ (tab ∷ digits_of (get_or vs j 0)) ≡ tabbed_to vs (j + 1)
unfolding tabbed_to
tabbed_more vs j h =
    ap (λ (m : ℕ). tabbed_to vs j ++ (m ∷ digits_of (get_or vs j 0))) (sym (tab_at (length vs) j h)) ∙
    fields_more (replicate (length vs) tab) vs j (rw (length-replicate (length vs) tab) h) h

-- all numbers
pub tabbed_all :
    (vs : List ℕ) (j : ℕ) → length vs ≤ j → tabbed_to vs j ≡ print_fields (replicate (length vs) tab) vs
unfolding tabbed_to
tabbed_all vs j h = fields_spent (replicate (length vs) tab) vs j (omega arith)
