-- Refusals of a kind: verdicts that refuse, if at all, with a refusal of which P holds.
use Prim.Native.Nat.{ℕ, zero, suc, ◌+◌}
use mathlib.Core.Bool.{Bool, true, false, cond}
use mathlib.Core.Path.{◌≡◌, sym, subst}
use Rattle.refusals.specs.declared.Refusal.{Refusal}
use Rattle.refusals.specs.Verdict.{Verdict}
use Rattle.refusals.specs.Verdict.{Fine, Refused}
use Rattle.refusals.specs.Order.{refuse_unless, ◌then◌, in_turn}
use Rattle.refusals.proofs.Order.{refused_not_fine}

-- where the verdict refuses, P holds of the refusal
pub data Only (P : Refusal → Type 0) : Verdict → Type 0 where
  fine : Only P Fine
  refused : {why : Refusal} → P why → Only P (Refused why)

-- so it does where one is said
pub only_said : {P : Refusal → Type 0} {v : Verdict} {why : Refusal} → Only P v → v ≡ Refused why → P why
only_said fine e = refused_not_fine (sym e)
only_said {P = P} {why = said} (refused {why} p) e = let same : why ≡ said = cc in subst P same p

-- what refuses for one kind refuses for every wider kind
pub only_wider :
    {P Q : Refusal → Type 0} {v : Verdict} → ((why : Refusal) → P why → Q why) → Only P v → Only Q v
only_wider f fine = fine
only_wider f (refused {why} p) = refused (f why p)

module _ {P : Refusal → Type 0} where
  -- a test that refuses for this kind
  pub unless_only : (t : Bool) (why : Refusal) → P why → Only P (refuse_unless t why)
  unfolding refuse_unless
  unless_only true why p = fine
  unless_only false why p = refused p

  -- two checks in order
  pub then_only : {v w : Verdict} → Only P v → Only P w → Only P (v then w)
  unfolding ◌then◌
  then_only fine q = q
  then_only (refused p) q = refused p

  -- checks in turn
  pub turns_only : (m i : ℕ) (check : ℕ → Verdict) → ((j : ℕ) → Only P (check j)) → Only P (in_turn m i check)
  unfolding in_turn
  turns_only zero i check p = fine
  turns_only (suc m) i check p = then_only (p i) (turns_only m (i + 1) check p)

  -- one of two checks
  pub cond_only : (t : Bool) {v w : Verdict} → Only P v → Only P w → Only P (cond t v w)
  cond_only true p q = p
  cond_only false p q = q
