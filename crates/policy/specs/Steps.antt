-- What one step of a compile writes. Definitions only. A step grows a tree t up to node e.
--   step_word e t          the first word of its text: that of a tree's file where t is whole by then, else of a part's
--   step_text n e t        the text of the nodes of t below e, for n rules
--   step_verdict v e t     v, then 4 as the build refuses these nodes where there is room for the largest tree
--   StepWritten v n e t    the promise of a step that is judged by v before: its text stands in front of the lent
--                          bytes, or it is refused; 4 also where the room is less than the bytes of the text
--   some_verdict, some_text, SomeWritten  the same of a step from nothing: `most` nodes of the tree of the list rs
--   on_verdict, on_text, OnWritten        of a step from a part, which was made for n rules: `most` nodes more of the
--                          tree that is grown from it
--   StepWithin s nodes pool    what the step s left is within the lent words
--   StepSaid n s nodes pool    its text: of a tree's file, or of a part's; or its refusal
use Rattle.refusals.specs.declared.Refusal.{Refusal}
use Rattle.builder.specs.declared.step.Step.{Step}
use Rattle.builder.specs.Said.{Stopped, Whole}
use Rattle.std.specs.Prelude.{ℕ, ◌+◌, ◌*◌, ◌≤◌, cond, ◌≡◌, List, [], ◌∷◌, length, take, leb, Err, Result}
use Rattle.refusals.specs.Verdict.{Verdict}
use Rattle.refusals.specs.Order.{room_verdict, ◌then◌}
use Rattle.refusals.specs.Promises.{Writes}
use Rattle.rules.specs.Words.{rule_count}
use Rattle.rules.specs.Good.{list_verdict}
use Rattle.trees.specs.Words.{node_words, most_nodes, most_pool, node_count}
use Rattle.tree_check.specs.PartCheck.{so_far_verdict}
use Rattle.built.specs.Boxes.{boxes_of}
use Rattle.built.specs.Trees.{Tree}
use Rattle.built.specs.Layout.{size, pooled, laid}
use Rattle.built.specs.GrownOn.{tree_on}
use Rattle.built.specs.Stops.{up_to}
use Rattle.built.specs.BuiltTree.{built_tree, tree_fits}
use Rattle.builder.specs.Build.{at_least_one}
use Rattle.text.specs.Words.{tree_word, part_word}
use Rattle.text.specs.Said.{paper}
use Rattle.tree_file.specs.TreeLines.{file_text}
use Rattle.tree_file.specs.Writing.{TreeWritten, PartWritten}

unfoldable pub step_word : ℕ → Tree → List ℕ
step_word e t = cond (leb (size t) e) tree_word part_word

unfoldable pub step_text : ℕ → ℕ → Tree → List ℕ
step_text n e t = let p = up_to e t 0 in file_text (step_word e t) n (laid p 0 0) (pooled p)

unfoldable pub step_verdict : Verdict → ℕ → Tree → Verdict
step_verdict v e t = v then tree_fits (up_to e t 0) (most_nodes * node_words) most_pool

abbrev pub StepWritten : Verdict → ℕ → ℕ → Tree → List ℕ → Result ℕ Refusal → List ℕ → Type 0
StepWritten v n e t before r after =
    let text = step_text n e t in
    Writes paper (step_verdict v e t then room_verdict (length text) (length before)) (length text ∷ []) text before r
    after

abbrev pub some_verdict : List ℕ → ℕ → Verdict
some_verdict rs most = step_verdict (list_verdict rs) (at_least_one most) (built_tree rs)

abbrev pub some_text : List ℕ → ℕ → List ℕ
some_text rs most = step_text (rule_count rs) (at_least_one most) (built_tree rs)

abbrev pub SomeWritten : List ℕ → ℕ → List ℕ → Result ℕ Refusal → List ℕ → Type 0
SomeWritten rs most = StepWritten (list_verdict rs) (rule_count rs) (at_least_one most) (built_tree rs)

abbrev pub on_verdict : List ℕ → ℕ → List ℕ → List ℕ → ℕ → Verdict
on_verdict rs n part kept most =
    step_verdict (so_far_verdict rs n part kept) (node_count part + at_least_one most) (tree_on (boxes_of rs) part kept)

abbrev pub on_text : List ℕ → List ℕ → List ℕ → ℕ → List ℕ
on_text rs part kept most =
    step_text (rule_count rs) (node_count part + at_least_one most) (tree_on (boxes_of rs) part kept)

abbrev pub OnWritten : List ℕ → ℕ → List ℕ → List ℕ → ℕ → List ℕ → Result ℕ Refusal → List ℕ → Type 0
OnWritten rs n part kept most =
    StepWritten (so_far_verdict rs n part kept) (rule_count rs) (node_count part + at_least_one most)
    (tree_on (boxes_of rs) part kept)

abbrev pub Within : ℕ → ℕ → List ℕ → List ℕ → Type 0
Within k p nodes pool = (k * node_words ≤ length nodes) × (p ≤ length pool)

abbrev pub StepWithin : Result Step Refusal → List ℕ → List ℕ → Type 0
StepWithin (Err why) nodes pool = Unit {0}
StepWithin (Whole k p) nodes pool = Within k p nodes pool
StepWithin (Stopped k p) nodes pool = Within k p nodes pool

abbrev pub StepSaid : ℕ → Result Step Refusal → List ℕ → List ℕ → List ℕ → Result ℕ Refusal → List ℕ → Type 0
StepSaid n (Err why) nodes pool before r after = (r ≡ Err why) × (after ≡ before)
StepSaid n (Whole k p) nodes pool before r after =
    TreeWritten n (take (k * node_words) nodes) (take p pool) before r after
StepSaid n (Stopped k p) nodes pool before r after =
    PartWritten n (take (k * node_words) nodes) (take p pool) before r after
