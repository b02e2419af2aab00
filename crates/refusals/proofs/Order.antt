-- The order of checks: two checks in order, and a check that is one test.
use Prim.Native.Nat.{ℕ, ◌≤◌, ◌<◌}
use native.Mathlib.Omega.{arith}
use mathlib.Core.Bool.{Bool, true, false}
use mathlib.Core.Path.{◌≡◌, refl, sym}
use mathlib.Core.Logic.{◌⊎◌, inl, inr, ◌↔◌}
use mathlib.Core.List.{List}
use borrow.Author.Tests.{leb-true, le-leb, lt-leb}
use Rattle.refusals.specs.declared.Refusal.{Refusal}
use Rattle.refusals.specs.declared.Refusal.TheVariants.{OutputShort}
use Rattle.refusals.specs.Verdict.{Verdict}
use Rattle.refusals.specs.Verdict.{Fine, Refused}
use Rattle.refusals.specs.Paper.{success, on_paper}
use Rattle.refusals.specs.Order.{refuse_unless, room_verdict, ◌then◌, ◌giving◌, leaving}

-- a refusal is not fine
pub refused_not_fine {ℓ} : {A : Type ℓ} {why : Refusal} → Refused why ≡ Fine → A
refused_not_fine e = let z : ◌≡◌ {A = ℕ} 0 1 = cc in absurd (omega arith)

-- a test that holds is fine
pub holds_fine : {t : Bool} (why : Refusal) → t ≡ true → refuse_unless t why ≡ Fine
unfolding refuse_unless
holds_fine why e = rw e

-- a test that fails refuses
pub fails_refused : {t : Bool} (why : Refusal) → t ≡ false → refuse_unless t why ≡ Refused why
unfolding refuse_unless
fails_refused why e = rw e

-- a test is fine exactly where it holds
pub fine_iff_holds : (t : Bool) (why : Refusal) → (refuse_unless t why ≡ Fine) ↔ (t ≡ true)
unfolding refuse_unless
fine_iff_holds true why = (λ e. refl, λ e. refl)
fine_iff_holds false why = (λ e. refused_not_fine e, λ e. holds_fine why e)

-- where the first check is fine, the second decides
pub then_fine : {v : Verdict} (w : Verdict) → v ≡ Fine → (v then w) ≡ w
unfolding ◌then◌
then_fine w e = rw e

-- where the first check refuses, that is the refusal
pub then_refused : {v : Verdict} (w : Verdict) {why : Refusal} → v ≡ Refused why → (v then w) ≡ Refused why
unfolding ◌then◌
then_refused w e = rw e

-- two checks in order are fine exactly where both are
pub then_fine_iff : (v w : Verdict) → ((v then w) ≡ Fine) ↔ ((v ≡ Fine) × (w ≡ Fine))
unfolding ◌then◌
then_fine_iff Fine w = (λ e. (refl, e), λ h. h.1)
then_fine_iff (Refused why) w = (λ e. refused_not_fine e, λ h. h.0)

-- two checks in order refuse where the first does, or where it is fine and the second does
pub then_cases :
    (v w : Verdict) {why : Refusal} → (v then w) ≡ Refused why → (v ≡ Refused why) ⊎ ((v ≡ Fine) × (w ≡ Refused why))
unfolding ◌then◌
then_cases Fine w e = inr (refl, e)
then_cases (Refused x) w e = inl e

-- how checks in order are bracketed makes no difference
pub then_assoc : (u v w : Verdict) → ((u then v) then w) ≡ (u then (v then w))
unfolding ◌then◌
then_assoc Fine v w = refl
then_assoc (Refused why) v w = refl

-- less room than what was found to be needed is refused
pub room_short :
    {needed : ℕ} (wanted room : ℕ) → needed ≡ wanted → room < needed →
    Refused (OutputShort needed 0) ≡ room_verdict wanted room
unfolding room_verdict
room_short wanted room e l = rw e (sym (fails_refused _ (lt-leb wanted room (rw e at l))))

-- room is fine exactly where it is enough
pub room_fine_iff : (needed room : ℕ) → (room_verdict needed room ≡ Fine) ↔ (needed ≤ room)
unfolding room_verdict
room_fine_iff needed room =
    (λ e. leb-true needed room ((fine_iff_holds _ _).0 e), λ l. (fine_iff_holds _ _).1 (le-leb needed room l))

-- ---- what a verdict gives and leaves

-- a refusal gives its line of the table
pub giving_refused : {v : Verdict} {why : Refusal} (values : List ℕ) → v ≡ Refused why → (v giving values) ≡ on_paper why
unfolding ◌giving◌
giving_refused values e = rw e

-- a check that is fine gives the values
pub giving_fine : {v : Verdict} (values : List ℕ) → v ≡ Fine → (v giving values) ≡ success values
unfolding ◌giving◌
giving_fine values e = rw e

-- a refusal leaves the words as found
pub leaving_refused : {v : Verdict} {why : Refusal} (new found : List ℕ) → v ≡ Refused why → leaving v new found ≡ found
unfolding leaving
leaving_refused new found e = rw e

-- a check that is fine leaves the new words
pub leaving_fine : {v : Verdict} (new found : List ℕ) → v ≡ Fine → leaving v new found ≡ new
unfolding leaving
leaving_fine new found e = rw e
