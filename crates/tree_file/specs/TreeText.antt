-- What a text says of a tree, line by line. A tree's file and a part's differ in their first word alone, so what both
-- are is defined once, for any first word. Definitions only.
--   tree n nodes pool       a tree as words: the number of rules, the words of its nodes, its pool
--   State                   before the first line, which is to begin with a word; within the nodes, the first line
--                           having announced n rules, m nodes and p pool words, the first i nodes having these words
--                           and entries; past the end line
--   counts_fit n m p         the counts obey the limits
--   cut_fits m i v f c      number v, field f and right child c are those of a cut i among m nodes
--   leaf_fits n p i k v c   number v and count c are those of a leaf i after k entries: the count is at most the number
--                           of rules, and does not take the pool past its total
--   step, finish            what a line makes of a state, none where it is wrong; the tree of a state past the end line
--   file_in word s          what the text s says as a file that begins with that word: a tree, or 9 or 10
--   tree_in s, part_in s    the same of a tree's file, and of a part's: the file of a tree whose compile was stopped
use Rattle.std.specs.Prelude.{ℕ, ◌+◌, Bool, cond, ◌&&◌, List, [], ◌∷◌, ◌++◌, length, get_or, drop, leb, ltb, eqb}
use Rattle.std.proofs.Math.Option.{Option, none, some}
use Rattle.facts.specs.Lists.{all_under}
use Rattle.rules.specs.Words.{most_rules}
use Rattle.trees.specs.Words.{most_nodes, most_pool, leaf_mark}
use Rattle.text.specs.Words.{tree_word, part_word, cut_word, leaf_word, end_word, one_tab, three_tabs, four_tabs}
use Rattle.text.specs.Line.{read_line, read_counted}
use Rattle.text.specs.Text.{split, Reading, read_all}
use Rattle.text.specs.EndLines.{on_end}

pub data Tree : Type 0 where
  tree : ℕ → List ℕ → List ℕ → Tree

pub data State : Type 0 where
  start : List ℕ → State
  within : ℕ → ℕ → ℕ → ℕ → List ℕ → List ℕ → State
  over : Tree → State

unfoldable pub counts_fit : ℕ → ℕ → ℕ → Bool
counts_fit n m p = leb n most_rules && ltb 0 m && leb m most_nodes && leb p most_pool

unfoldable pub cut_fits : ℕ → ℕ → ℕ → ℕ → ℕ → Bool
cut_fits m i v f c = eqb v i && ltb f leaf_mark && ltb c m

unfoldable pub leaf_fits : ℕ → ℕ → ℕ → ℕ → ℕ → ℕ → Bool
leaf_fits n p i k v c = eqb v i && leb c n && leb (k + c) p

abbrev pub on_first : Option (List ℕ) → Option State
on_first none = none
on_first (some v) =
    cond (counts_fit (get_or v 0 0) (get_or v 1 0) (get_or v 2 0))
    (some (within (get_or v 0 0) (get_or v 1 0) (get_or v 2 0) 0 [] [])) none

abbrev pub on_cut : ℕ → ℕ → ℕ → ℕ → List ℕ → List ℕ → List ℕ → Option State
on_cut n m p i ws es v =
    cond (cut_fits m i (get_or v 0 0) (get_or v 1 0) (get_or v 3 0))
    (some (within n m p (i + 1) (ws ++ (get_or v 1 0 ∷ get_or v 2 0 ∷ get_or v 3 0 ∷ [])) es)) none

abbrev pub on_leaf : ℕ → ℕ → ℕ → ℕ → List ℕ → List ℕ → Option (List ℕ) → Option State
on_leaf n m p i ws es none = none
on_leaf n m p i ws es (some v) =
    cond (leaf_fits n p i (length es) (get_or v 0 0) (get_or v 1 0) && all_under n (drop 2 v))
    (some (within n m p (i + 1) (ws ++ (leaf_mark ∷ length es ∷ get_or v 1 0 ∷ [])) (es ++ drop 2 v))) none

-- a cut line, or else a leaf line
abbrev pub on_node : ℕ → ℕ → ℕ → ℕ → List ℕ → List ℕ → Option (List ℕ) → Option (List ℕ) → Option State
on_node n m p i ws es (some v) leaf = on_cut n m p i ws es v
on_node n m p i ws es none leaf = on_leaf n m p i ws es leaf

unfoldable pub step : State → List ℕ → Option State
step (start word) l = on_first (read_line word three_tabs l)
step (within n m p i ws es) l =
    cond (ltb i m) (on_node n m p i ws es (read_line cut_word four_tabs l) (read_counted leaf_word l))
    (on_end (eqb (length es) p) (m + 1) (over (tree n ws es)) (read_line end_word one_tab l))
step (over t) l = none

unfoldable pub finish : State → Option Tree
finish (start word) = none
finish (within n m p i ws es) = none
finish (over t) = some t

unfoldable pub file_in : List ℕ → List ℕ → Reading Tree
file_in word s = read_all step finish (start word) 0 (split s)

abbrev pub tree_in : List ℕ → Reading Tree
tree_in s = file_in tree_word s

abbrev pub part_in : List ℕ → Reading Tree
part_in s = file_in part_word s
