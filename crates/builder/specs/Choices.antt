-- What a node is, by the nodes that stand already, in the code's types. Definitions only.
--   fresh_choice k n boxes b     a node that does not stand yet: a leaf, or the chosen cut
--   choice_in k fresh node       a node as it stands, or else fresh. With no cuts allowed a cut that stands is a leaf
--   choice_of k n boxes standing b i    node i of the words standing, for box b, with k more cuts allowed
use Rattle.trees.specs.declared.words.Node.{Node}
use Rattle.trees.specs.Standing.{Cut, Leaf, Missing}
use Rattle.std.specs.Prelude.{ℕ, cond, ◌||◌, List, eqb, Option}
use Rattle.trees.specs.Node.{node_at}
use Rattle.built.specs.CutValues.{chosen_field, chosen_value, stops}
use Rattle.builder.specs.declared.choice.Choice.{Choice}
use Rattle.builder.specs.declared.choice.Choice.TheVariants as choice

unfoldable pub fresh_choice : ℕ → ℕ → List (List (List ℕ)) → List (List ℕ) → Choice
fresh_choice k n boxes b =
    cond (eqb k 0 || stops n boxes b) choice.Leaf (choice.Cut (chosen_field n boxes b) (chosen_value n boxes b))

unfoldable pub choice_in : ℕ → Choice → Option Node → Choice
choice_in k fresh Missing = fresh
choice_in k fresh (Leaf start count) = choice.Stands start count
choice_in k fresh (Cut f v child) = cond (eqb k 0) choice.Leaf (choice.Cut f v)

unfoldable pub choice_of : ℕ → ℕ → List (List (List ℕ)) → List ℕ → List (List ℕ) → ℕ → Choice
choice_of k n boxes standing b i = choice_in k (fresh_choice k n boxes b) (node_at standing i)
