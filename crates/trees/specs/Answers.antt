-- What the tree search says, besides a refusal. Definitions only.
--   Found n v k       so many numbers were found, so many nodes visited, and so many entries compared
--   first_said h v k  the first entry that matches with its rule's action, or none; nodes and entries as before
--   Rule n a v k      the first entry that matches is n, and a is its rule's action
--   NoRule v k        no entry matches
--   ComesTo s n v     the walk came to a leaf of n entries, from place s of the pool on, past v nodes
--   Lost i            the walk ends at node i, which is wrong: that is 6
--   Came i v          the walk ends at leaf i, past v nodes
use Rattle.std.specs.Prelude.{ℕ, Option, None, Result, Ok, Err}
use Rattle.refusals.specs.declared.Refusal.{Refusal}
use Rattle.refusals.specs.declared.Refusal.TheVariants.{NodeWrong}
use Rattle.rules.specs.declared.line.Hit.{Hit}
use Rattle.rules.specs.Hits.{hit}
use Rattle.trees.specs.declared.search.Listed.{Listed}
use Rattle.trees.specs.declared.search.First.{First}
use Rattle.trees.specs.declared.search.Reached.{Reached}
use Rattle.trees.specs.declared.walk.Walked.{Walked}

abbrev pub Found : ℕ → ℕ → ℕ → Result Listed Refusal
Found n v k = Ok (record { count = n; visited = v; compared = k })

abbrev pub first_said : Option Hit → ℕ → ℕ → Result First Refusal
first_said h v k = Ok (record { hit = h; visited = v; compared = k })

abbrev pub Rule : ℕ → ℕ → ℕ → ℕ → Result First Refusal
Rule n a v k = first_said (hit n a) v k

abbrev pub NoRule : ℕ → ℕ → Result First Refusal
NoRule v k = first_said None v k

abbrev pub ComesTo : ℕ → ℕ → ℕ → Result Reached Refusal
ComesTo s n v = Ok (record { start = s; count = n; visited = v })

abbrev pub Lost : ℕ → Result Walked Refusal
Lost i = Err (NodeWrong i)

abbrev pub Came : ℕ → ℕ → Result Walked Refusal
Came i v = Ok (record { leaf = i; visited = v })
