-- The line search for the first match. Definitions only.
--   hit_in           the number of a first match and its action; nothing for none
--   paper            an answer of the search, on paper: the number of the first match and its action, or no value for
--                    none
--   first_of rs ms    the same for the first of the numbers ms; the tree search says it so too
--   LineFirstSearched    the promise: 1, 2, 11, 3; else the lowest number that matches, and its rule's action
use Rattle.rules.specs.declared.line.Hit.{Hit}
use Rattle.refusals.specs.declared.Refusal.{Refusal}
use Rattle.std.specs.Prelude.{Some, None, ℕ, List, [], ◌∷◌, Option, Result}
use Rattle.refusals.specs.Paper.{Paper, said}
use Rattle.refusals.specs.Order.{◌then◌}
use Rattle.refusals.specs.Promises.{Says}
use Rattle.fields.specs.Headers.{header_verdict}
use Rattle.rules.specs.Words.{action_of}
use Rattle.rules.specs.Good.{list_verdict}
use Rattle.rules.specs.Matching.{matching}

abbrev pub hit_in : Option Hit → List ℕ
hit_in None = []
hit_in (Some hit) = hit.number ∷ hit.action ∷ []

abbrev pub paper : Result (Option Hit) Refusal → Paper
paper = said hit_in

abbrev pub first_of : List ℕ → List ℕ → List ℕ
first_of rs [] = []
first_of rs (r ∷ rest) = r ∷ action_of rs r ∷ []

abbrev pub LineFirstSearched : List ℕ → List ℕ → Result (Option Hit) Refusal → Type 0
LineFirstSearched rs h r = Says paper (list_verdict rs then header_verdict h) (first_of rs (matching rs h)) r
