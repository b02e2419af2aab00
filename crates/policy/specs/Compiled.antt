-- What a list is compiled into: the text of the tree that is built for it. Definitions only.
--   largest_build rs         1, 2, 11, then 4 as the build refuses where there is room for the largest tree
--   built_text rs            the text of the tree of the list rs
--   compile_verdict rs room  the same refusals, then 4 where the room is less than the bytes of the text
--   TextCompiled             the promise: the text stands in front of the lent bytes, or it is refused
use Rattle.refusals.specs.declared.Refusal.{Refusal}
use Rattle.std.specs.Prelude.{ℕ, ◌*◌, List, [], ◌∷◌, length, Result}
use Rattle.refusals.specs.Verdict.{Verdict}
use Rattle.refusals.specs.Order.{room_verdict, ◌then◌}
use Rattle.refusals.specs.Promises.{Writes}
use Rattle.rules.specs.Words.{rule_count}
use Rattle.trees.specs.Words.{node_words, most_nodes, most_pool}
use Rattle.built.specs.BuiltTree.{built_nodes, built_pool, build_verdict}
use Rattle.text.specs.Said.{paper}
use Rattle.tree_file.specs.TreeLines.{tree_text}

abbrev pub largest_build : List ℕ → Verdict
largest_build rs = build_verdict rs (most_nodes * node_words) most_pool

unfoldable pub built_text : List ℕ → List ℕ
built_text rs = tree_text (rule_count rs) (built_nodes rs) (built_pool rs)

abbrev pub compile_verdict : List ℕ → ℕ → Verdict
compile_verdict rs room = largest_build rs then room_verdict (length (built_text rs)) room

abbrev pub TextCompiled : List ℕ → List ℕ → Result ℕ Refusal → List ℕ → Type 0
TextCompiled rs before r after =
    Writes paper (compile_verdict rs (length before)) (length (built_text rs) ∷ []) (built_text rs) before r after
