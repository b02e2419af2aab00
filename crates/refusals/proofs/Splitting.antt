-- Checks in order, taken apart: a last check that is always fine, a second check that only matters where the first is
-- fine, and many checks in turn as the first of them and then the rest.
use Prim.Native.Nat.{ℕ, zero, suc, ◌+◌}
use native.Mathlib.Nat.{zero-add, add-zero}
use native.Mathlib.Omega.{arith}
use mathlib.Core.Path.{◌≡◌, refl, sym}
use Rattle.refusals.specs.Verdict.{Verdict}
use Rattle.refusals.specs.Verdict.{Fine, Refused}
use Rattle.refusals.specs.Order.{◌then◌, in_turn}
use Rattle.refusals.proofs.Order.{then_assoc}

-- nothing after a check leaves it as it is
pub then_nothing : (v : Verdict) → (v then Fine) ≡ v
unfolding ◌then◌
then_nothing Fine = refl
then_nothing (Refused why) = refl

-- two checks that agree where the first is fine are alike after it
pub then_same : (v : Verdict) {w u : Verdict} → (v ≡ Fine → w ≡ u) → (v then w) ≡ (v then u)
unfolding ◌then◌
then_same Fine h = h refl
then_same (Refused why) h = refl

-- m + k checks in turn are m, and then the k after them
pub turns_add :
    (m k i : ℕ) (check : ℕ → Verdict) → in_turn (m + k) i check ≡ (in_turn m i check then in_turn k (i + m) check)
unfolding in_turn ◌then◌
turns_add zero k i check = rw (zero-add, add-zero)
turns_add (suc m) k i check =
    let more : suc m + k ≡ suc (m + k) = omega arith in
    let next : i + 1 + m ≡ i + suc m = omega arith in
    rw (more, in_turn, turns_add m k (i + 1) check, next)
    (sym (then_assoc (check i) (in_turn m (i + 1) check) (in_turn k (i + suc m) check)))

-- one check in turn is that check
pub turns_one : (i : ℕ) (check : ℕ → Verdict) → in_turn 1 i check ≡ check i
unfolding in_turn
turns_one i check = then_nothing (check i)

-- 1 + m + k checks in turn are the first, then m, and then the k after them
pub turns_first_add :
    (m k i : ℕ) (check : ℕ → Verdict) →
    in_turn (1 + m + k) i check ≡ (check i then in_turn m (i + 1) check then in_turn k (i + 1 + m) check)
unfolding in_turn
turns_first_add m k i check =
    let more : 1 + m + k ≡ suc (m + k) = omega arith in
    rw (more, in_turn, turns_add m k (i + 1) check)
