-- Taking the part of the part file, and whether a compile goes on from it. Definitions only.
--   paper               an answer on paper: the number of rules, and the words of the nodes and of the pool
--   made_for a          the number of rules that a part which was read says it was made for
--   PartTaken           the promise: 12, 9 or 10 of the part file f, then 4 where the lent words are less than its
--                       nodes or its pool; else these numbers, and its words stand in front of both outputs
--   begun_by v k n p    by the verdict v on a part: its refusal; or these numbers
--   goes_on t rs nodes pool   by what was taken of the part file: its refusal; or what the part check says, for the
--                       list rs, of the words in front of nodes and pool
use Rattle.refusals.specs.declared.Refusal.{Refusal}
use Rattle.policy.specs.declared.part.Begun.{Begun}
use Rattle.policy.specs.Said.{BegunWords}
use Rattle.std.specs.Prelude.{ℕ, List, [], ◌∷◌, length, take, Err, Result, Ok}
use Rattle.std.proofs.Math.Option.{Option}
use Rattle.refusals.specs.Verdict.{Verdict}
use Rattle.refusals.specs.Verdict as verdict
use Rattle.refusals.specs.Paper.{Paper, said}
use Rattle.refusals.specs.Promises.{Writes}
use Rattle.tree_check.specs.PartCheck.{so_far_verdict}
use Rattle.text.specs.Text.{Reading, good, refused}
use Rattle.tree_file.specs.TreeText.{Tree, tree}
use Rattle.tree_file.specs.Reading.{read_verdict, nodes_in, pool_in}
use Rattle.policy.specs.Files.{part_of}

abbrev pub paper : Result Begun Refusal → Paper
paper = said (λ part. part.rules ∷ part.nodes ∷ part.pool ∷ [])

abbrev pub made_for : Reading Tree → ℕ
made_for (refused why) = 0
made_for (good (tree n nodes pool)) = n

abbrev pub PartTaken : Option (List ℕ) → List ℕ → List ℕ → Result Begun Refusal → List ℕ → List ℕ → Type 0
PartTaken f nodes pool r nodes' pool' =
    let a = part_of f in
    let v = read_verdict a (length nodes) (length pool) in
    let values = made_for a ∷ length (nodes_in a) ∷ length (pool_in a) ∷ [] in
    Writes paper v values (nodes_in a) nodes r nodes' × Writes paper v values (pool_in a) pool r pool'

unfoldable pub begun_by : Verdict → ℕ → ℕ → ℕ → Result Begun Refusal
begun_by verdict.Fine k n p = BegunWords k n p
begun_by (verdict.Refused why) k n p = Err why

unfoldable pub goes_on : Result Begun Refusal → List ℕ → List ℕ → List ℕ → Result Begun Refusal
goes_on (Err why) rs nodes pool = Err why
goes_on (Ok begun) rs nodes pool =
    let part = take begun.nodes nodes in
    let kept = take begun.pool pool in
    begun_by (so_far_verdict rs begun.rules part kept) begun.rules (length part) (length kept)
