-- What stands at a node. Definitions only.
--   Missing       none is there
--   Leaf s k      a leaf of k entries, from place s of the pool on
--   Cut f v w     a cut of field f at value v, with right child w
use Rattle.std.specs.Prelude.{ℕ, Option, Some, None}
use Rattle.trees.specs.declared.words.Node.{Node}
use Rattle.trees.specs.declared.words.Node.TheVariants as node

pattern abbrev pub Missing : Option Node
Missing = None

pattern abbrev pub Leaf : ℕ → ℕ → Option Node
Leaf s k = Some (node.Leaf s k)

pattern abbrev pub Cut : ℕ → ℕ → ℕ → Option Node
Cut f v w = Some (node.Cut f v w)
