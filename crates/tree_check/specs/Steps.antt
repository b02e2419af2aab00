-- What the steps of the preorder check answer, in the code's types. Definitions only.
--   look_at nodes k b i      node i, if it is there; 6 for a cut that is too deep or does not divide the box
--   Judged m p r             r says what the part p does of a tree of m nodes
--   Shallow p                the cuts of a good part are few enough to count one more
use Rattle.refusals.specs.declared.Refusal.TheVariants.{NodeWrong}
use Rattle.tree_check.specs.declared.preorder.Part.{Part}
use Rattle.tree_check.specs.declared.check.Figures.{Figures}
use Rattle.refusals.specs.declared.Refusal.{Refusal}
use Rattle.trees.specs.declared.words.Node.{Node}
use Rattle.trees.specs.Standing.{Cut, Leaf, Missing}
use Rattle.std.specs.Prelude.{ℕ, ◌<◌, ◌^◌, cond, List, eqb, Option, Err, Result, Ok}
use Rattle.refusals.specs.Promises.{Says}
use Rattle.fields.specs.Cuts.{divides}
use Rattle.trees.specs.Node.{node_at}
use Rattle.tree_check.specs.TreeCheck.{paper, part_verdict, figures}

unfoldable pub look_in : ℕ → List (List ℕ) → ℕ → Option Node → Result (Option Node) Refusal
look_in k b i Missing = Ok Missing
look_in k b i (Leaf start count) = Ok (Leaf start count)
look_in k b i (Cut field value child) =
    cond (eqb k 0) (Err (NodeWrong i)) (cond (divides b field value) (Ok (Cut field value child)) (Err (NodeWrong i)))

unfoldable pub look_at : List ℕ → ℕ → List (List ℕ) → ℕ → Result (Option Node) Refusal
look_at nodes k b i = look_in k b i (node_at nodes i)

unfoldable pub Shallow : Result Part Refusal → Type 0
Shallow (Err why) = Unit {0}
Shallow (Ok part) = part.cuts < 2 ^ 63

abbrev pub Judged : ℕ → Result Part Refusal → Result Figures Refusal → Type 0
Judged m p r = Says paper (part_verdict m p) (figures p) r
