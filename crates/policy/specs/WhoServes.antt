-- Who serves. Definitions only.
--   by_tree n p         the tree serves, with n node words and p pool words
--   serving v ns es     by the verdict v on a tree: the tree, with its words ns and es; or the list, with no words, and
--                       the refusal to be written
--   serving_of t rs nodes pool   by what was taken of the tree file: its refusal; or what the tree check says, for the
--                       list rs, of the words in front of nodes and pool
use Rattle.refusals.specs.declared.Refusal.{Refusal}
use Rattle.policy.specs.declared.tree.Words.{Words}
use Rattle.std.specs.Prelude.{ℕ, true, false, List, [], length, take, Err, Result, Ok}
use Rattle.refusals.specs.Verdict.{Verdict}
use Rattle.refusals.specs.Verdict.{Fine, Refused}
use Rattle.tree_check.specs.TreeCheck.{check_verdict}
use Rattle.policy.specs.declared.serving.Serving.{Serving}

abbrev pub by_tree : ℕ → ℕ → Serving
by_tree n p = record { refused = Fine; accepted = true; nodes = n; pool = p }

unfoldable pub serving : Verdict → List ℕ → List ℕ → Serving
serving Fine ns es = by_tree (length ns) (length es)
serving (Refused why) ns es = record { refused = Refused why; accepted = false; nodes = 0; pool = 0 }

unfoldable pub serving_of : Result Words Refusal → List ℕ → List ℕ → List ℕ → Serving
serving_of (Err why) rs nodes pool = serving (Refused why) [] []
serving_of (Ok taken) rs nodes pool =
    let tree = take taken.nodes nodes in
    let kept = take taken.pool pool in
    serving (check_verdict rs tree kept) tree kept
