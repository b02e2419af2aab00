-- The tree search for all matches. Definitions only.
--   paper                an answer of the search, on paper: the nodes visited and the entries compared, then how many
--                        numbers it wrote
--   tree_all_verdict     3, 6, 7, then 4 where the room is less than the number of matches
--   TreeAllSearched      the promise: it lists the entries that match; it compares every entry of the leaf
use Rattle.trees.specs.declared.search.Listed.{Listed}
use Rattle.refusals.specs.declared.Refusal.{Refusal}
use Rattle.std.specs.Prelude.{ℕ, List, [], ◌∷◌, length, Result}
use Rattle.refusals.specs.Verdict.{Verdict}
use Rattle.refusals.specs.Paper.{Paper, said}
use Rattle.refusals.specs.Order.{room_verdict, ◌then◌}
use Rattle.refusals.specs.Promises.{Writes}
use Rattle.trees.specs.Walk.{walk_of, visited}
use Rattle.trees.specs.Search.{reach_verdict, leaf_list, tree_list}

abbrev pub paper : Result Listed Refusal → Paper
paper = said (λ found. found.visited ∷ found.compared ∷ found.count ∷ [])

unfoldable pub tree_all_verdict : List ℕ → List ℕ → List ℕ → List ℕ → ℕ → Verdict
tree_all_verdict rs nodes pool h room =
    reach_verdict rs nodes pool h then room_verdict (length (tree_list rs nodes pool h)) room

abbrev pub all_values : List ℕ → List ℕ → List ℕ → List ℕ → List ℕ
all_values rs nodes pool h =
    visited (walk_of nodes h) ∷ length (leaf_list nodes pool h) ∷ length (tree_list rs nodes pool h) ∷ []

abbrev pub TreeAllSearched : List ℕ → List ℕ → List ℕ → List ℕ → List ℕ → Result Listed Refusal → List ℕ → Type 0
TreeAllSearched rs nodes pool h before r after =
    Writes paper (tree_all_verdict rs nodes pool h (length before)) (all_values rs nodes pool h)
    (tree_list rs nodes pool h) before r after
