-- Numbers counted up: what a function makes of them, one more behind them, and the first of them.
use Prim.Native.Nat.{ℕ, zero, suc, ◌+◌, ◌≤◌, ◌<◌}
use native.Mathlib.Nat.{add-zero}
use native.Mathlib.Omega.{arith}
use mathlib.Core.Path.{◌≡◌, refl, sym, ap, ◌∙◌}
use mathlib.Core.List.{List, [], ◌∷◌, ◌++◌, map}
use lib.ListN.{length, get_or, take, length-map}
use lib.Seq.{ext_get_or}
use Rattle.facts.specs.Lists.{up_from}
use Rattle.facts.proofs.Steps.{length_up}
use Rattle.facts.proofs.Tables.{get_or_map_in}
use Rattle.facts.proofs.Places.{get_or_up}

-- of m numbers counted up it makes m
pub length_map_up : {A : Type 0} (g : ℕ → A) (m : ℕ) → length (map g (up_from 0 m)) ≡ m
length_map_up g m = length-map (up_from 0 m) g ∙ length_up m 0

-- at a place below m stands what it makes of that place
pub get_or_map_up : {A : Type 0} (g : ℕ → A) (m j : ℕ) (a : A) → j < m → get_or (map g (up_from 0 m)) j a ≡ g j
get_or_map_up g m j a h =
    let i : j < length (up_from 0 m) = omega (arith, length_up m 0) in
    let e : get_or (up_from 0 m) j 0 ≡ j = omega (arith, get_or_up m 0 j h) in
    get_or_map_in g (up_from 0 m) j 0 a i ∙ ap g e

-- two functions that agree below m make the same of m numbers
pub map_up_same :
    {A : Type 0} (a : A) (g h : ℕ → A) (m : ℕ) → ((j : ℕ) → j < m → g j ≡ h j) →
    map g (up_from 0 m) ≡ map h (up_from 0 m)
map_up_same a g h m same =
    ext_get_or a (map g (up_from 0 m)) (map h (up_from 0 m)) (length_map_up g m ∙ sym (length_map_up h m))
    (λ j l.
    let k : j < m = omega (arith, length_map_up g m) in
    get_or_map_up g m j a k ∙ same j k ∙ sym (get_or_map_up h m j a k))

-- numbers counted up to one more: that number stands behind them
pub up_snoc : (m i : ℕ) → up_from i (m + 1) ≡ up_from i m ++ ((i + m) ∷ [])
unfolding up_from
up_snoc zero i = rw add-zero
up_snoc (suc m) i =
    let e : suc m + 1 ≡ suc (m + 1) = omega arith in
    let q : i + 1 + m ≡ i + suc m = omega arith in
    rw e (ap (λ (l : List ℕ). i ∷ l) (up_snoc m (i + 1) ∙ rw q))

-- the first n of m numbers counted up are n counted up
pub take_up : (n m i : ℕ) → n ≤ m → take n (up_from i m) ≡ up_from i n
unfolding up_from
take_up zero m i l = refl
take_up (suc n) zero i l = absurd (omega arith)
take_up (suc n) (suc m) i l = ap (λ (l : List ℕ). i ∷ l) (take_up n m (i + 1) (omega arith))
