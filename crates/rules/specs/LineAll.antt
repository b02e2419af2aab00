-- The line search for all matches. Definitions only.
--   paper                   an answer of the search, on paper: how many numbers it wrote
--   Lists v ms before r after    what v refuses; else r says how many numbers ms has, and they stand in front of the
--                           lent words, the rest as found
--   all_verdict rs h room   1, 2, 11, 3, then 4 where the room is less than the number of matches
--   LineAllSearched         the promise: it lists the matching numbers
use Rattle.refusals.specs.declared.Refusal.{Refusal}
use Rattle.std.specs.Prelude.{ℕ, List, [], ◌∷◌, length, Result}
use Rattle.refusals.specs.Verdict.{Verdict}
use Rattle.refusals.specs.Paper.{Paper, counted}
use Rattle.refusals.specs.Order.{room_verdict, ◌then◌}
use Rattle.refusals.specs.Promises.{Writes}
use Rattle.fields.specs.Headers.{header_verdict}
use Rattle.rules.specs.Good.{list_verdict}
use Rattle.rules.specs.Matching.{matching}

abbrev pub paper : Result ℕ Refusal → Paper
paper = counted

abbrev pub Lists : Verdict → List ℕ → List ℕ → Result ℕ Refusal → List ℕ → Type 0
Lists v ms before r after = Writes paper v (length ms ∷ []) ms before r after

unfoldable pub all_verdict : List ℕ → List ℕ → ℕ → Verdict
all_verdict rs h room = list_verdict rs then header_verdict h then room_verdict (length (matching rs h)) room

abbrev pub LineAllSearched : List ℕ → List ℕ → List ℕ → Result ℕ Refusal → List ℕ → Type 0
LineAllSearched rs h before r after = Lists (all_verdict rs h (length before)) (matching rs h) before r after
