-- A file begins with its own word: what reads well as a file of one kind is wrong at line 1 as a file of the other.
use Prim.Native.Nat.{ℕ}
use mathlib.Core.Bool.{false}
use mathlib.Core.Path.{◌≡◌, refl}
use mathlib.Core.Option.{Option, none, some}
use mathlib.Core.List.{List, [], ◌∷◌}
use lib.Dec.{eqb}
use Rattle.refusals.specs.declared.Refusal.TheVariants.{LineWrong}
use Rattle.text.specs.Words.{three_tabs}
use Rattle.text.specs.Line.{read_word, read_line, print_line}
use Rattle.text.specs.Text.{Text, whole, split, Reading, good, refused, on_step, run, read_all}
use Rattle.text.proofs.Lines.{line_exact}
use Rattle.text.proofs.Runs.{refused_good}
use Rattle.tree_file.specs.TreeText.{Tree, State, start, on_first, step, finish, file_in, tree_in, part_in}

module _ (a b : ℕ) (u v : List ℕ) (differ : eqb a b ≡ false) where
  -- a line that reads well with one word does not with a word that begins with another byte
  other_line : (l vs : List ℕ) → read_line (a ∷ u) three_tabs l ≡ some vs → read_line (b ∷ v) three_tabs l ≡ none
  unfolding read_line print_line read_word
  other_line l vs e = rw ((line_exact (a ∷ u) three_tabs l vs e).text, differ)

  -- so a first line that leads on with one word is wrong with the other
  other_first :
      (l : List ℕ) (on other : State → Reading Tree) (t : Tree) (o : Option (List ℕ)) →
      read_line (a ∷ u) three_tabs l ≡ o → on_step (on_first o) 0 on ≡ good t →
      on_step (on_first (read_line (b ∷ v) three_tabs l)) 0 other ≡ refused (LineWrong 1)
  other_first l on other t none q e = refused_good e
  other_first l on other t (some vs) q e = rw (other_line l vs q)

  -- and so is the text that begins with that line
  other_text :
      (x : Text) (t : Tree) → read_all step finish (start (a ∷ u)) 0 x ≡ good t →
      read_all step finish (start (b ∷ v)) 0 x ≡ refused (LineWrong 1)
  unfolding run step finish
  other_text (whole [] s) t e = refused_good e
  other_text (whole (l ∷ ls) s) t e = other_first l _ _ t (read_line (a ∷ u) three_tabs l) refl e

  -- a text that says a tree with one first word is refused with 9 at line 1 with the other
  pub other_word : (s : List ℕ) (t : Tree) → file_in (a ∷ u) s ≡ good t → file_in (b ∷ v) s ≡ refused (LineWrong 1)
  unfolding file_in
  other_word s t e = other_text (split s) t e

-- a tree's file is no part's
pub tree_not_part : (s : List ℕ) (t : Tree) → tree_in s ≡ good t → part_in s ≡ refused (LineWrong 1)
tree_not_part = other_word _ _ _ _ refl

-- a part's file is no tree's
pub part_not_tree : (s : List ℕ) (t : Tree) → part_in s ≡ good t → tree_in s ≡ refused (LineWrong 1)
part_not_tree = other_word _ _ _ _ refl
