-- The words of a tree: nodes of three words, and one pool of leaf entries. Definitions only.
--   node_words             the words of a node
--   most_nodes, most_pool  the most nodes of a tree, and the most words of its pool
--   leaf_mark              the first word of a leaf; that of a cut is its field
--   node_count nodes       the number of whole nodes
--   field_of, value_of, child_of nodes i  the words of cut i: its field, its value, its right child
--   start_of, count_of nodes i             the second and third word of leaf i: where its entries start, and how many
--   entries nodes pool i   the entries of leaf i
--   size_verdict nodes pool   5: no node words, not whole nodes, or too many; or too long a pool
use Rattle.std.specs.Prelude.{ℕ, ◌+◌, ◌*◌, ◌/◌, ◌%◌, List, length, get_or, take, drop, leb, ltb, eqb}
use Rattle.refusals.specs.declared.Refusal.TheVariants.{TreeWordsWrong}
use Rattle.refusals.specs.Verdict.{Verdict}
use Rattle.refusals.specs.Order.{refuse_unless, ◌then◌}
use Rattle.fields.specs.Words.{field_count}

abbrev pub node_words : ℕ
node_words = 3

abbrev pub most_nodes : ℕ
most_nodes = 2047

abbrev pub most_pool : ℕ
most_pool = 4096

abbrev pub leaf_mark : ℕ
leaf_mark = field_count

abbrev pub node_count : List ℕ → ℕ
node_count nodes = length nodes / node_words

abbrev pub node_word : List ℕ → ℕ → ℕ → ℕ
node_word nodes i j = get_or nodes (i * node_words + j) 0

abbrev pub field_of : List ℕ → ℕ → ℕ
field_of nodes i = node_word nodes i 0

abbrev pub value_of : List ℕ → ℕ → ℕ
value_of nodes i = node_word nodes i 1

abbrev pub child_of : List ℕ → ℕ → ℕ
child_of nodes i = node_word nodes i 2

abbrev pub start_of : List ℕ → ℕ → ℕ
start_of nodes i = node_word nodes i 1

abbrev pub count_of : List ℕ → ℕ → ℕ
count_of nodes i = node_word nodes i 2

unfoldable pub entries : List ℕ → List ℕ → ℕ → List ℕ
entries nodes pool i = take (count_of nodes i) (drop (start_of nodes i) pool)

unfoldable pub size_verdict : List ℕ → List ℕ → Verdict
size_verdict nodes pool =
    refuse_unless (ltb 0 (length nodes)) TreeWordsWrong then
    refuse_unless (eqb (length nodes % node_words) 0) TreeWordsWrong then
    refuse_unless (leb (length nodes) (most_nodes * node_words)) TreeWordsWrong then
    refuse_unless (leb (length pool) most_pool) TreeWordsWrong
