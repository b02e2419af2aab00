-- What an answer on paper tells of the verdict behind it.
use Prim.Native.Nat.{ℕ}
use mathlib.Core.Path.{◌≡◌, refl, sym, ap}
use mathlib.Core.List.{List}
use Rattle.refusals.specs.declared.Refusal.{Refusal}
use Rattle.refusals.specs.Verdict.{Verdict}
use Rattle.refusals.specs.Verdict.{Fine, Refused}
use Rattle.refusals.specs.Paper.{success, on_paper}
use Rattle.refusals.specs.Order.{◌giving◌}
use Rattle.refusals.proofs.Unique.{on_paper_unique, refusal_not_success}

-- a success comes of a verdict that is fine, and has its values
pub success_giving : (v : Verdict) (vs : List ℕ) {us : List ℕ} → success us ≡ (v giving vs) → (v ≡ Fine) × (us ≡ vs)
unfolding ◌giving◌
success_giving Fine vs e = (refl, cc)
success_giving (Refused why) vs e = refusal_not_success (sym e)

-- a refusal comes of the verdict that refuses so
pub refusal_giving : (v : Verdict) (vs : List ℕ) {why : Refusal} → on_paper why ≡ (v giving vs) → v ≡ Refused why
unfolding ◌giving◌
refusal_giving Fine vs e = refusal_not_success e
refusal_giving (Refused x) vs {why} e = ap Refused (on_paper_unique x why (sym e))
