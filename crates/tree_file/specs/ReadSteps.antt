-- What the steps of the tree reader ask for and answer, from the first line to the end line. Definitions only.
--   Limits k            the counts that were announced obey the limits
--   in_nodes k i ws es  within the nodes of a tree with the counts k
--   tree_from st s c    what the text says from the cursor on, in that state
--   FirstLineRead       the first line, which is to begin with the word: what it refuses, or the counts it announces
--   TreeStored          the words of a tree that a pass found, and where it stored them, as far as there is room
--   PassRead            a pass over a text that says a: its refusal; or the counts, and the words are stored
use Rattle.std.specs.Prelude.{ℕ, ◌*◌, true, ◌≡◌, List, [], length, Err, Ok, Result}
use Rattle.std.proofs.lemmas.List.Edits.{sets}
use Rattle.refusals.specs.declared.Refusal.{Refusal}
use Rattle.trees.specs.Words.{node_words}
use Rattle.text.specs.declared.cursor.Cursor.{Cursor}
use Rattle.text.specs.Text.{Reading, good, refused}
use Rattle.text.specs.Onward.{Stands, read_on}
use Rattle.tree_file.specs.declared.read.Counts.{Counts}
use Rattle.tree_file.specs.TreeText.{Tree, tree, State, within, counts_fit, step, finish, file_in}

pub record Limits (k : Counts) : Type 0 where
  pub fit : counts_fit k.rules k.nodes k.pool ≡ true

abbrev pub in_nodes : Counts → ℕ → List ℕ → List ℕ → State
in_nodes k i ws es = within k.rules k.nodes k.pool i ws es

abbrev pub begun : Counts → State
begun k = in_nodes k 0 [] []

abbrev pub tree_from : State → List ℕ → Cursor → Reading Tree
tree_from st s c = read_on step finish st s c

pub record TreeAnnounced (word s : List ℕ) (k : Counts) (d : Cursor) : Type 0 where
  pub moved : file_in word s ≡ tree_from (begun k) s d
  pub stands : Stands s d
  pub limits : Limits k

abbrev pub FirstLineRead : List ℕ → List ℕ → Result (Counts × Cursor) Refusal → Type 0
FirstLineRead word s (Err why) = file_in word s ≡ refused why
FirstLineRead word s (Ok (k, d)) = TreeAnnounced word s k d

pub record TreeStored (a : Reading Tree) (nodes pool nodes' pool' : List ℕ) (n m p : ℕ) : Type 0 where
  pub words : List ℕ
  pub entries : List ℕ
  pub says : a ≡ good (tree n words entries)
  pub size : length words ≡ m * node_words
  pub total : length entries ≡ p
  pub nodes_are : nodes' ≡ sets nodes 0 words
  pub pool_is : pool' ≡ sets pool 0 entries

pub data PassRead (a : Reading Tree) (nodes pool nodes' pool' : List ℕ) : Result Counts Refusal → Type 0 where
  refuses : {why : Refusal} → a ≡ refused why → PassRead a nodes pool nodes' pool' (Err why)
  stores :
      {k : Counts} → TreeStored a nodes pool nodes' pool' k.rules k.nodes k.pool →
      PassRead a nodes pool nodes' pool' (Ok k)
