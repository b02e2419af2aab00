-- What one check says: it is fine, or refused for a reason. Definitions only.
--   Verdict        what a check answers: `Result<(), Refusal>` in the code
--   Fine           the check is fine
--   Refused why    it refuses for why
use Rattle.std.specs.Prelude.{Result, Ok, Err}
use Rattle.refusals.specs.declared.Refusal.{Refusal}

abbrev pub Verdict : Type 0
Verdict = Result (Unit {0}) Refusal

pattern abbrev pub Fine : Verdict
Fine = Ok tt

pattern abbrev pub Refused : Refusal → Verdict
Refused why = Err why
