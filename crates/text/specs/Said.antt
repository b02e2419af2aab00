-- Saying some bytes: they stand in front of the lent ones, if there is room for all of them. Definitions only.
--   paper                     an answer on paper: the bytes written
--   Said bs before r after    the promise: the bytes bs stand in front of the lent ones, and r says how many they are;
--                             4 where the room is less than that
use Rattle.refusals.specs.declared.Refusal.{Refusal}
use Rattle.std.specs.Prelude.{List, [], ◌∷◌, ℕ, length, Result}
use Rattle.refusals.specs.Paper.{Paper, counted}
use Rattle.refusals.specs.Order.{room_verdict}
use Rattle.refusals.specs.Promises.{Writes}

abbrev pub paper : Result ℕ Refusal → Paper
paper = counted

abbrev pub Said : List ℕ → List ℕ → Result ℕ Refusal → List ℕ → Type 0
Said bs before r after = Writes paper (room_verdict (length bs) (length before)) (length bs ∷ []) bs before r after
