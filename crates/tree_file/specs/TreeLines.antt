-- The text of a tree, by the first word of its file. Definitions only.
--   cut_numbers, leaf_numbers  the numbers of a node's line: of a cut its number and words; of a leaf its number, its
--                              count and its entries
--   node_line nodes pool i     the line of node i
--   node_lines nodes pool i    the lines of the first i nodes
--   first_line word n m p      the first line
--   file_text word n nodes pool    the text of a tree for n rules, in a file that begins with that word
--   tree_text, part_text       the same in a tree's file, and in a part's
--   Spelling n nodes pool      what a tree is written for: n is at most the most rules, the sizes hold, it is spelt
use Rattle.std.specs.Prelude.{ℕ, ◌≤◌, cond, ◌≡◌, List, [], ◌∷◌, length, replicate}
use Rattle.refusals.specs.Verdict.{Fine}
use Rattle.rules.specs.Words.{most_rules}
use Rattle.trees.specs.Words.{node_count, field_of, value_of, child_of, count_of, entries, size_verdict}
use Rattle.trees.specs.Spelt.{is_cut, Spelt}
use Rattle.text.specs.Words.{tab, tree_word, part_word, cut_word, leaf_word, three_tabs, four_tabs}
use Rattle.text.specs.Line.{print_line}
use Rattle.text.specs.Text.{unlines}
use Rattle.text.specs.EndLines.{record_lines, file_lines}

abbrev pub cut_numbers : List ℕ → ℕ → List ℕ
cut_numbers nodes i = i ∷ field_of nodes i ∷ value_of nodes i ∷ child_of nodes i ∷ []

abbrev pub leaf_numbers : List ℕ → List ℕ → ℕ → List ℕ
leaf_numbers nodes pool i = i ∷ count_of nodes i ∷ entries nodes pool i

abbrev pub leaf_marks : ℕ → List ℕ
leaf_marks count = tab ∷ tab ∷ replicate count tab

unfoldable pub node_line : List ℕ → List ℕ → ℕ → List ℕ
node_line nodes pool i =
    cond (is_cut nodes i) (print_line cut_word four_tabs (cut_numbers nodes i))
    (print_line leaf_word (leaf_marks (count_of nodes i)) (leaf_numbers nodes pool i))

abbrev pub node_lines : List ℕ → List ℕ → ℕ → List (List ℕ)
node_lines nodes pool i = record_lines (node_line nodes pool) i

abbrev pub first_line : List ℕ → ℕ → ℕ → ℕ → List ℕ
first_line word n m p = print_line word three_tabs (n ∷ m ∷ p ∷ [])

unfoldable pub file_text : List ℕ → ℕ → List ℕ → List ℕ → List ℕ
file_text word n nodes pool =
    let m = node_count nodes in unlines (file_lines (first_line word n m (length pool)) (node_lines nodes pool m) m)

abbrev pub tree_text : ℕ → List ℕ → List ℕ → List ℕ
tree_text n nodes pool = file_text tree_word n nodes pool

abbrev pub part_text : ℕ → List ℕ → List ℕ → List ℕ
part_text n nodes pool = file_text part_word n nodes pool

pub record Spelling (n : ℕ) (nodes pool : List ℕ) : Type 0 where
  pub few : n ≤ most_rules
  pub sizes : size_verdict nodes pool ≡ Fine
  pub spelt : Spelt n nodes pool
