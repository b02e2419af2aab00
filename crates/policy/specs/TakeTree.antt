-- Taking the tree of the tree file. Definitions only.
--   paper               an answer on paper: the words of the nodes, and of the pool
--   TreeTaken           the promise: 12, 9 or 10 of the tree file f, then 4 where the lent words are less than its
--                       nodes or its pool; else how many words these have, which stand in front of both outputs
use Rattle.refusals.specs.declared.Refusal.{Refusal}
use Rattle.policy.specs.declared.tree.Words.{Words}
use Rattle.std.specs.Prelude.{ℕ, List, [], ◌∷◌, length, Result}
use Rattle.std.proofs.Math.Option.{Option}
use Rattle.refusals.specs.Paper.{Paper, said}
use Rattle.refusals.specs.Promises.{Writes}
use Rattle.tree_file.specs.Reading.{read_verdict, nodes_in, pool_in}
use Rattle.policy.specs.Files.{tree_of}

abbrev pub paper : Result Words Refusal → Paper
paper = said (λ taken. taken.nodes ∷ taken.pool ∷ [])

abbrev pub TreeTaken : Option (List ℕ) → List ℕ → List ℕ → Result Words Refusal → List ℕ → List ℕ → Type 0
TreeTaken f nodes pool r nodes' pool' =
    let a = tree_of f in
    let v = read_verdict a (length nodes) (length pool) in
    let values = length (nodes_in a) ∷ length (pool_in a) ∷ [] in
    Writes paper v values (nodes_in a) nodes r nodes' × Writes paper v values (pool_in a) pool r pool'
