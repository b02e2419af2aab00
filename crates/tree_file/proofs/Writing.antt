-- The text of a tree, part by part, as it is put.
use Prim.Native.Nat.{ℕ, ◌+◌, ◌-◌, ◌≤◌, ◌<◌}
use native.Mathlib.Omega.{arith}
use mathlib.Core.Path.{◌≡◌, sym, ap}
use mathlib.Core.List.{List, [], ◌∷◌, ◌++◌, append_assoc, append-nil}
use lib.ListN.{length, take, drop, length-take, length-drop}
use Rattle.text.specs.Words.{newline, tab, cut_word, leaf_word, two_tabs, four_tabs}
use Rattle.text.specs.Line.{print_fields, print_line, ended}
use Rattle.text.specs.Text.{unlines}
use Rattle.text.specs.EndLines.{end_line}
use Rattle.text.proofs.Files.{file_parts}
use Rattle.trees.specs.Words.{leaf_mark, node_count, field_of, start_of, count_of}
use Rattle.trees.proofs.Spelling.{part_is_entries}
use Rattle.tree_file.specs.TreeLines.{cut_numbers, leaf_marks, node_line, node_lines, first_line, file_text}
use Rattle.tree_file.proofs.Growing.{cut_line, leaf_line}

-- ---- a leaf line

-- the parts of a leaf line make it
pub leaf_parts :
    (i c : ℕ) (ms es : List ℕ) →
    ((leaf_word ++ print_fields two_tabs (i ∷ c ∷ [])) ++ print_fields ms es) ++ (newline ∷ []) ≡
    print_line leaf_word (tab ∷ tab ∷ ms) (i ∷ c ∷ es) ++ (newline ∷ [])
unfolding print_line print_fields
leaf_parts i c ms es = simp (append_assoc, append-nil)

-- ---- the line of a node

module _ (ws es : List ℕ) (i : ℕ) where
  -- a cut's line with its newline
  pub cut_with_newline :
      field_of ws i < leaf_mark →
      print_line cut_word four_tabs (cut_numbers ws i) ++ (newline ∷ []) ≡ node_line ws es i ++ (newline ∷ [])
  cut_with_newline l = ap (λ (u : List ℕ). u ++ (newline ∷ [])) (sym (cut_line ws es i l))

  -- a leaf's line with its newline, the entries being this part of the pool
  pub leaf_with_newline :
      (s k : ℕ) → leaf_mark ≤ field_of ws i → s ≡ start_of ws i → k ≡ count_of ws i → s + k ≤ length es →
      print_line leaf_word (leaf_marks (length (take (s + k - s) (drop s es))))
      (i ∷ k ∷ take (s + k - s) (drop s es)) ++ (newline ∷ []) ≡ node_line ws es i ++ (newline ∷ [])
  leaf_with_newline s k l p q h =
      let size : length (take (s + k - s) (drop s es)) ≡ count_of ws i =
      simp (length-take, length-drop) (omega arith) in
      let part = part_is_entries ws es i s k p q in
      rw (size, part, q) (ap (λ (u : List ℕ). u ++ (newline ∷ [])) (sym (leaf_line ws es i l)))

-- ---- the whole text

-- the first line, those of all nodes, and the end line make the text
pub text_parts :
    (word : List ℕ) (n : ℕ) (ws es : List ℕ) (i : ℕ) → i ≡ node_count ws →
    (ended (first_line word n (node_count ws) (length es)) ++ unlines (node_lines ws es i)) ++
    ended (end_line (node_count ws + 1)) ≡
    file_text word n ws es
unfolding file_text
text_parts word n ws es i e =
    rw e (file_parts (first_line word n (node_count ws) (length es)) (node_lines ws es (node_count ws)) _)
