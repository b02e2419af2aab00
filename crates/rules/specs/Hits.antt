-- What a search for the first match says, besides a refusal. Definitions only.
--   hit n a     rule n, whose action is a
--   Rule n a    the lowest rule that matches is n, and a is its action
--   NoRule      no rule matches
use Rattle.std.specs.Prelude.{ℕ, Option, Some, None, Result, Ok}
use Rattle.refusals.specs.declared.Refusal.{Refusal}
use Rattle.rules.specs.declared.line.Hit.{Hit}

abbrev pub hit : ℕ → ℕ → Option Hit
hit n a = Some (record { number = n; action = a })

abbrev pub Rule : ℕ → ℕ → Result (Option Hit) Refusal
Rule n a = Ok (hit n a)

pattern abbrev pub NoRule : Result (Option Hit) Refusal
NoRule = Ok None
