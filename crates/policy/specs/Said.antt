-- What a file gave, and what was taken of one, besides a refusal. Definitions only.
--   File              what a file gave, as the code has it: a number of bytes, or none
--   NotRead           it was not read to its end, or is too long
--   Bytes n           its n bytes stand in front of a buffer
--   TakenWords n p    a tree was taken, of n node words and p pool words
--   BegunWords k n p  a part was taken that was made for k rules, of n node words and p pool words
use Rattle.std.specs.Prelude.{ℕ, Option, Some, None, Result, Ok}
use Rattle.refusals.specs.declared.Refusal.{Refusal}
use Rattle.policy.specs.declared.tree.Words.{Words}
use Rattle.policy.specs.declared.part.Begun.{Begun}

abbrev pub File : Type 0
File = Option ℕ

pattern abbrev pub NotRead : File
NotRead = None

pattern abbrev pub Bytes : ℕ → File
Bytes n = Some n

abbrev pub TakenWords : ℕ → ℕ → Result Words Refusal
TakenWords n p = Ok (record { nodes = n; pool = p })

abbrev pub BegunWords : ℕ → ℕ → ℕ → Result Begun Refusal
BegunWords k n p = Ok (record { rules = k; nodes = n; pool = p })
