-- The tree search, up to its leaf: what both searches refuse, and what they compare. Definitions only.
--   walk_verdict w            6 at the node where the walk is lost
--   leaf_verdict rs nodes pool i   7 at leaf i: start plus count passes the pool's end, or an entry names no whole rule
--   reach_verdict rs nodes pool h   3, then 6 in the walk, then 7 at the leaf that the walk comes to
--   leaf_list nodes pool h    the entries of the leaf that header h comes to
--   tree_list rs nodes pool h  those of them that match, in their order
--   looked_at p l             the entries that first-match compares: up to and including the first that passes
use Rattle.std.specs.Prelude.{ℕ, ◌+◌, Bool, cond, List, [], ◌∷◌, length, leb}
use Rattle.facts.specs.Lists.{keep, all_under}
use Rattle.refusals.specs.declared.Refusal.TheVariants.{NodeWrong, LeafWrong}
use Rattle.refusals.specs.Verdict.{Verdict}
use Rattle.refusals.specs.Verdict.{Fine, Refused}
use Rattle.refusals.specs.Order.{refuse_unless, ◌then◌}
use Rattle.fields.specs.Headers.{header_verdict}
use Rattle.rules.specs.Words.{rule_count}
use Rattle.rules.specs.Matching.{matches}
use Rattle.trees.specs.Words.{start_of, count_of, entries}
use Rattle.trees.specs.Walk.{Walk, lost, came, walk_of, leaf_of}

abbrev pub walk_verdict : Walk → Verdict
walk_verdict (lost i) = Refused (NodeWrong i)
walk_verdict (came cuts leaf) = Fine

unfoldable pub leaf_verdict : List ℕ → List ℕ → List ℕ → ℕ → Verdict
leaf_verdict rs nodes pool i =
    refuse_unless (leb (start_of nodes i + count_of nodes i) (length pool)) (LeafWrong i) then
    refuse_unless (all_under (rule_count rs) (entries nodes pool i)) (LeafWrong i)

unfoldable pub reach_verdict : List ℕ → List ℕ → List ℕ → List ℕ → Verdict
reach_verdict rs nodes pool h =
    header_verdict h then walk_verdict (walk_of nodes h) then leaf_verdict rs nodes pool (leaf_of (walk_of nodes h))

unfoldable pub leaf_list : List ℕ → List ℕ → List ℕ → List ℕ
leaf_list nodes pool h = entries nodes pool (leaf_of (walk_of nodes h))

unfoldable pub tree_list : List ℕ → List ℕ → List ℕ → List ℕ → List ℕ
tree_list rs nodes pool h = keep (matches rs h) (leaf_list nodes pool h)

unfoldable pub looked_at : (ℕ → Bool) → List ℕ → List ℕ
looked_at p [] = []
looked_at p (x ∷ xs) = x ∷ cond (p x) [] (looked_at p xs)
