-- The build, at once and in steps. Definitions only.
--   TreeStored paper v values t    a call with two outputs, which is fine where v is: the words of the tree t stand in
--                         front of both, or it is refused
--   paper                 an answer of the build, on paper: the numbers of nodes and of pool words
--   built_values rs       these numbers of the tree of a list
--   TreeBuilt             the promise: the words of the tree stand in front of both outputs, or it is refused
--   step_paper            an answer of a step, on paper: the same two numbers, and 1 where the tree is whole, else 0
--   step_values e t       these numbers of the nodes of the tree t below e
--   StepBuilt v e t       the promise of a step that is fine where v is: the words of these nodes, or it is refused
--   at_least_one most     the nodes that a step adds: 0 counts as 1
--   SomeBuilt rs most     so many nodes of the tree of a list
--   OnBuilt rs n part kept most    so many nodes more of the tree that is grown from a part, which was made for n rules
use Rattle.refusals.specs.declared.Refusal.{Refusal}
use Rattle.builder.specs.declared.step.Step.{Step}
use Rattle.builder.specs.declared.build.Size.{Size}
use Rattle.builder.specs.Said.{Stopped, Whole}
use Rattle.std.specs.Prelude.{ℕ, ◌+◌, max, cond, List, [], ◌∷◌, length, leb, Err, Result}
use Rattle.refusals.specs.Verdict.{Verdict}
use Rattle.refusals.specs.Order.{◌then◌}
use Rattle.refusals.specs.Paper.{Paper, success, on_paper, said}
use Rattle.refusals.specs.Promises.{Writes}
use Rattle.rules.specs.Good.{list_verdict}
use Rattle.trees.specs.Words.{node_count}
use Rattle.tree_check.specs.PartCheck.{so_far_verdict}
use Rattle.built.specs.Boxes.{boxes_of}
use Rattle.built.specs.Trees.{Tree}
use Rattle.built.specs.Layout.{size, pooled, laid}
use Rattle.built.specs.GrownOn.{tree_on}
use Rattle.built.specs.Stops.{up_to}
use Rattle.built.specs.BuiltTree.{built_tree, built_pool, tree_fits, build_verdict}

abbrev pub TreeStored :
    {R : Type 0} → (R → Paper) → Verdict → List ℕ → Tree → List ℕ → List ℕ → R → List ℕ → List ℕ → Type 0
TreeStored paper v values t nodes pool r nodes' pool' =
    Writes paper v values (laid t 0 0) nodes r nodes' × Writes paper v values (pooled t) pool r pool'

abbrev pub paper : Result Size Refusal → Paper
paper = said (λ tree. tree.nodes ∷ tree.pool ∷ [])

abbrev pub built_values : List ℕ → List ℕ
built_values rs = size (built_tree rs) ∷ length (built_pool rs) ∷ []

abbrev pub TreeBuilt : List ℕ → List ℕ → List ℕ → Result Size Refusal → List ℕ → List ℕ → Type 0
TreeBuilt rs nodes pool =
    TreeStored paper (build_verdict rs (length nodes) (length pool)) (built_values rs) (built_tree rs) nodes pool

abbrev pub step_paper : Result Step Refusal → Paper
step_paper (Err why) = on_paper why
step_paper (Whole nodes pool) = success (nodes ∷ pool ∷ 1 ∷ [])
step_paper (Stopped nodes pool) = success (nodes ∷ pool ∷ 0 ∷ [])

abbrev pub step_values : ℕ → Tree → List ℕ
step_values e t = size (up_to e t 0) ∷ length (pooled (up_to e t 0)) ∷ cond (leb (size t) e) 1 0 ∷ []

abbrev pub StepBuilt : Verdict → ℕ → Tree → List ℕ → List ℕ → Result Step Refusal → List ℕ → List ℕ → Type 0
StepBuilt v e t nodes pool =
    TreeStored step_paper (v then tree_fits (up_to e t 0) (length nodes) (length pool)) (step_values e t) (up_to e t 0)
    nodes pool

abbrev pub at_least_one : ℕ → ℕ
at_least_one most = max most 1

abbrev pub SomeBuilt : List ℕ → ℕ → List ℕ → List ℕ → Result Step Refusal → List ℕ → List ℕ → Type 0
SomeBuilt rs most = StepBuilt (list_verdict rs) (at_least_one most) (built_tree rs)

abbrev pub OnBuilt : List ℕ → ℕ → List ℕ → List ℕ → ℕ → List ℕ → List ℕ → Result Step Refusal → List ℕ → List ℕ → Type 0
OnBuilt rs n part kept most =
    StepBuilt (so_far_verdict rs n part kept) (node_count part + at_least_one most) (tree_on (boxes_of rs) part kept)
