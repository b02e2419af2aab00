-- The number that an argument tells, as the code has it. Definitions only.
--   Told       a number, or none
--   Wrong      it tells none
--   Number n   it tells n
use Rattle.std.specs.Prelude.{ℕ, Option, Some, None}

abbrev pub Told : Type 0
Told = Option ℕ

pattern abbrev pub Wrong : Told
Wrong = None

pattern abbrev pub Number : ℕ → Told
Number n = Some n
