-- The cut values of a field: which numbers they are, and that they rise.
use Prim.Native.Nat.{ℕ, ◌-◌, ◌≤◌, ◌<◌}
use native.Mathlib.Omega.{arith}
use mathlib.Core.Bool.{true}
use mathlib.Core.Path.{◌≡◌}
use mathlib.Core.Logic.{◌↔◌}
use mathlib.Core.List.{List}
use lib.ListN.{length, get_or}
use Rattle.facts.specs.Lists.{up_from, has, rises}
use Rattle.facts.proofs.Members.{kept_iff, has_of_up, up_has}
use Rattle.facts.proofs.Rising.{rises_lower, rises_kept, rises_up}
use Rattle.facts.proofs.Places.{has_at}
use Rattle.fields.specs.Boxes.{low_of, high_of}
use Rattle.built.specs.CutValues.{cuts_at, cut_values}

module _ (n : ℕ) (boxes : List (List (List ℕ))) (b : List (List ℕ)) (f : ℕ) where
  -- a number is a cut value exactly where it is at least the low and below the high, and some box ends there
  pub cut_value_iff :
      (v : ℕ) →
      (has (cut_values n boxes b f) v ≡ true) ↔
      ((low_of b f ≤ v) × (v < high_of b f) × (cuts_at n boxes b f v ≡ true))
  unfolding cut_values
  cut_value_iff v = (
    λ e.
        let t = (kept_iff (cuts_at n boxes b f) up v).0 e in
        let u = has_of_up (high_of b f - low_of b f) (low_of b f) v t.0 in
        (u.0, omega arith, t.1),
    λ h.
        (kept_iff (cuts_at n boxes b f) up v).1
        (up_has (high_of b f - low_of b f) (low_of b f) v h.0 (omega arith), h.2),
  )
    where
      up : List ℕ
      up = up_from (low_of b f) (high_of b f - low_of b f)

  -- the cut values rise, from the low on
  pub cut_values_from_low : rises (low_of b f) (cut_values n boxes b f) ≡ true
  unfolding cut_values
  cut_values_from_low = rises_kept (cuts_at n boxes b f) (low_of b f) _ (rises_up (high_of b f - low_of b f) (low_of b f))

  -- the cut values rise
  pub cut_values_rise : rises 0 (cut_values n boxes b f) ≡ true
  cut_values_rise = rises_lower 0 (low_of b f) (cut_values n boxes b f) (omega arith) cut_values_from_low

  -- the cut value at a place is at least the low and below the high, and some box ends there
  pub cut_value_at :
      (j : ℕ) → j < length (cut_values n boxes b f) →
      let v = get_or (cut_values n boxes b f) j 0 in
      (low_of b f ≤ v) × (v < high_of b f) × (cuts_at n boxes b f v ≡ true)
  cut_value_at j l = (cut_value_iff (get_or (cut_values n boxes b f) j 0)).0 (has_at (cut_values n boxes b f) j l)
