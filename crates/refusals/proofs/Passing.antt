-- A refusal that is passed on as it came.
use mathlib.Core.Path.{◌≡◌}
use Rattle.std.specs.Prelude.{Result, Err}
use Rattle.std.specs.Result.{IsErrAnd}
use Rattle.std.proofs.lemmas.Result.{err_from_is_err_and}
use Rattle.refusals.specs.declared.Refusal.{Refusal}

-- what is passed on for `why` refuses for it
pub passed : {T : Type 0} {why : Refusal} (r : Result T Refusal) → IsErrAnd r (λ e. e ≡ why) → r ≡ Err why
passed r h = let p = err_from_is_err_and r h in rw (p.1, p.2)
