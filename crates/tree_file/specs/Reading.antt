-- Reading a tree's file, or a part's. Definitions only.
--   HoldsTree n m p             the text holds a tree for n rules, of m nodes and p pool words
--   paper                       an answer of the reader, on paper: the numbers of rules, nodes and pool words
--   values_in a                 these numbers of a reading that came to its end; none where it was refused
--   nodes_in a, pool_in a       the words of its nodes, and its pool
--   room_for t a b               4 where the room a is less than the node words of the tree t; then, with extra 1, where
--                               the room b is less than its pool
--   read_verdict a room more    the reading's own refusal, 9 or 10, then 4
--   FileRead word               the promise: the words of the tree stand in front of both outputs, or it is refused
--   TreeRead, PartRead          the same for a tree's file, and for a part's
use Rattle.tree_file.specs.declared.read.Counts.{Counts}
use Rattle.refusals.specs.declared.Refusal.{Refusal}
use Rattle.std.specs.Prelude.{ℕ, List, [], ◌∷◌, length, leb, Ok, Err, Result}
use Rattle.refusals.specs.declared.Refusal.TheVariants.{OutputShort}
use Rattle.refusals.specs.Verdict.{Verdict}
use Rattle.refusals.specs.Verdict as verdict
use Rattle.refusals.specs.Paper.{Paper, success, on_paper}
use Rattle.refusals.specs.Order.{refuse_unless, room_verdict, ◌then◌}
use Rattle.refusals.specs.Promises.{Writes}
use Rattle.trees.specs.Words.{node_count}
use Rattle.text.specs.Words.{tree_word, part_word}
use Rattle.text.specs.Text.{Reading, good, refused}
use Rattle.tree_file.specs.TreeText.{Tree, tree, file_in}

abbrev pub HoldsTree : ℕ → ℕ → ℕ → Result Counts Refusal
HoldsTree n m p = Ok (record { rules = n; nodes = m; pool = p })

abbrev pub paper : Result Counts Refusal → Paper
paper (Err why) = on_paper why
paper (Ok counts) = success (counts.rules ∷ counts.nodes ∷ counts.pool ∷ [])

abbrev pub values_in : Reading Tree → List ℕ
values_in (refused why) = []
values_in (good (tree n nodes pool)) = n ∷ node_count nodes ∷ length pool ∷ []

abbrev pub nodes_in : Reading Tree → List ℕ
nodes_in (refused why) = []
nodes_in (good (tree n nodes pool)) = nodes

abbrev pub pool_in : Reading Tree → List ℕ
pool_in (refused why) = []
pool_in (good (tree n nodes pool)) = pool

unfoldable pub room_for : Tree → ℕ → ℕ → Verdict
room_for (tree n nodes pool) a b =
    room_verdict (length nodes) a then refuse_unless (leb (length pool) b) (OutputShort (length pool) 1)

abbrev pub read_verdict : Reading Tree → ℕ → ℕ → Verdict
read_verdict (refused why) a b = verdict.Refused why
read_verdict (good t) a b = room_for t a b

abbrev pub FileRead : List ℕ → List ℕ → List ℕ → List ℕ → Result Counts Refusal → List ℕ → List ℕ → Type 0
FileRead word s nodes pool r nodes' pool' =
    let a = file_in word s in
    let v = read_verdict a (length nodes) (length pool) in
    Writes paper v (values_in a) (nodes_in a) nodes r nodes' × Writes paper v (values_in a) (pool_in a) pool r pool'

abbrev pub TreeRead : List ℕ → List ℕ → List ℕ → Result Counts Refusal → List ℕ → List ℕ → Type 0
TreeRead s nodes pool r nodes' pool' = FileRead tree_word s nodes pool r nodes' pool'

abbrev pub PartRead : List ℕ → List ℕ → List ℕ → Result Counts Refusal → List ℕ → List ℕ → Type 0
PartRead s nodes pool r nodes' pool' = FileRead part_word s nodes pool r nodes' pool'
