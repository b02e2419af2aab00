-- The tree search for the first match. Definitions only.
--   paper                an answer of the search, on paper: the nodes visited and the entries compared, then the number
--                        of the first match and its action, or no value for none
--   TreeFirstSearched    the promise: 3, 6, 7; else the first entry that matches, and its rule's action; it compares
--                        entries up to that one
use Rattle.trees.specs.declared.search.First.{First}
use Rattle.refusals.specs.declared.Refusal.{Refusal}
use Rattle.std.specs.Prelude.{ℕ, List, ◌∷◌, length, Result}
use Rattle.refusals.specs.Paper.{Paper, said}
use Rattle.refusals.specs.Promises.{Says}
use Rattle.rules.specs.Matching.{matches}
use Rattle.rules.specs.LineFirst.{hit_in, first_of}
use Rattle.trees.specs.Walk.{walk_of, visited}
use Rattle.trees.specs.Search.{reach_verdict, leaf_list, tree_list, looked_at}

abbrev pub paper : Result First Refusal → Paper
paper = said (λ first. first.visited ∷ first.compared ∷ hit_in first.hit)

abbrev pub first_values : List ℕ → List ℕ → List ℕ → List ℕ → List ℕ
first_values rs nodes pool h =
    visited (walk_of nodes h) ∷ length (looked_at (matches rs h) (leaf_list nodes pool h)) ∷
    first_of rs (tree_list rs nodes pool h)

abbrev pub TreeFirstSearched : List ℕ → List ℕ → List ℕ → List ℕ → Result First Refusal → Type 0
TreeFirstSearched rs nodes pool h r = Says paper (reach_verdict rs nodes pool h) (first_values rs nodes pool h) r
