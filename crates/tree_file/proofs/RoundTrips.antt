-- The round trips, for any first word: what is written reads back, what reads well is what would be written, and a file
-- that is cut is refused.
use Prim.Native.Nat.{ℕ, ◌^◌}
use native.Mathlib.Nat.{zero-add}
use mathlib.Core.Path.{◌≡◌, refl, sym, ◌∙◌}
use mathlib.Core.Option.{none, some}
use mathlib.Core.List.{List, [], ◌∷◌, ◌++◌}
use lib.ListN.{length}
use Rattle.refusals.specs.declared.Refusal.TheVariants.{TextStops}
use Rattle.trees.specs.Words.{leaf_mark, node_count, field_of, count_of}
use Rattle.text.specs.Words.{tree_word, part_word, cut_word, leaf_word, three_tabs, four_tabs}
use Rattle.text.specs.Line.{EachUnder}
use Rattle.text.specs.Text.{split, lines_of, good, refused}
use Rattle.text.proofs.Lines.{none_some}
use Rattle.text.proofs.Plain.{Plain, plain_of, line_plain}
use Rattle.text.proofs.Files.{file_back}
use Rattle.text.proofs.Cut.{cut}
use Rattle.facts.proofs.Cases.{WithinOrOver, within_or_over, at_most, over as above}
use Rattle.tree_file.specs.TreeText.{Tree, tree, State, start, within, over, step, finish, file_in}
use Rattle.tree_file.specs.TreeLines.{cut_numbers, leaf_numbers, leaf_marks, node_line}
use Rattle.tree_file.specs.TreeLines.{file_text, Spelling}
use Rattle.tree_file.proofs.Growing.{cut_line, leaf_line}
use Rattle.tree_file.proofs.Spelling.{tabs_plain}
use Rattle.tree_file.proofs.Back.{after, first_step, node_step, end_step}
use Rattle.tree_file.proofs.Exact.{text_says}

-- ---- the lines have no newline among their bytes

-- the two first words have none
pub tree_plain : Plain tree_word
tree_plain = plain_of tree_word refl

pub part_plain : Plain part_word
part_plain = plain_of part_word refl

-- a node's line has none
node_plain : (ws es : List ℕ) (i : ℕ) → Plain (node_line ws es i)
node_plain ws es i = go (within_or_over leaf_mark (field_of ws i))
  where
    go : WithinOrOver leaf_mark (field_of ws i) → Plain (node_line ws es i)
    go (at_most l) =
        rw (leaf_line ws es i l)
        (line_plain leaf_word (leaf_marks (count_of ws i)) (leaf_numbers ws es i) (plain_of leaf_word refl)
        (tabs_plain (count_of ws i)))
    go (above l) =
        rw (cut_line ws es i l)
        (line_plain cut_word four_tabs (cut_numbers ws i) (plain_of cut_word refl) (plain_of four_tabs refl))

-- ---- what is written reads back

module _ (word : List ℕ) (plain : Plain word) {n : ℕ} {ws es : List ℕ} (g : Spelling n ws es)
    (b : EachUnder (2 ^ 32) ws) where
  -- the text of a tree that is spelt, the words of its nodes being of 32 bits, says that tree
  pub read_of_written : file_in word (file_text word n ws es) ≡ good (tree n ws es)
  unfolding file_in file_text finish
  read_of_written =
      let m = node_count ws in
      let first = line_plain word three_tabs (n ∷ m ∷ length es ∷ []) plain (plain_of three_tabs refl) in
      file_back step finish (node_line ws es) (after g b) m first (node_plain ws es) (first_step g b word)
      (node_step g b) (end_step g b) refl

-- ---- what reads well

-- a text that says a tree is the text of that tree
pub written_of_read :
    (word s : List ℕ) (n : ℕ) (nodes pool : List ℕ) → file_in word s ≡ good (tree n nodes pool) →
    file_text word n nodes pool ≡ s
written_of_read word s n nodes pool e = sym (text_says word s n nodes pool e).text

-- what a text says is spelt
pub spelling_of_read :
    (word s : List ℕ) (n : ℕ) (nodes pool : List ℕ) → file_in word s ≡ good (tree n nodes pool) → Spelling n nodes pool
spelling_of_read word s n nodes pool e = (text_says word s n nodes pool e).spelling

-- the words of the nodes that a text says are of 32 bits
pub below_of_read :
    (word s : List ℕ) (n : ℕ) (nodes pool : List ℕ) → file_in word s ≡ good (tree n nodes pool) →
    EachUnder (2 ^ 32) nodes
below_of_read word s n nodes pool e = (text_says word s n nodes pool e).below

-- ---- what is cut

-- a state that holds a tree takes no more lines
no_more : (st : State) (l : List ℕ) (t : Tree) → finish st ≡ some t → step st l ≡ none
unfolding step finish
no_more (start word) l t e = none_some e
no_more (within n m p i ws es) l t e = none_some e
no_more (over u) l t e = refl

-- a text that says a tree, cut before its end, is refused with 10 and the number of whole lines that are left
pub cut_refused :
    (word p q : List ℕ) (t : Tree) → file_in word (p ++ q) ≡ good t → (q ≡ [] → ⊥) →
    file_in word p ≡ refused (TextStops (length (lines_of (split p))))
unfolding file_in
cut_refused word p q t e more = cut step finish no_more (start word) 0 p q t more e ∙ rw zero-add
