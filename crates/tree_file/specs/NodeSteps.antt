-- What the steps of the tree reader ask for and answer at a node's line. Definitions only.
--   entries_of n c bs   c numbers, each behind a tab and below n, and nothing behind them
--   Turn                it is the turn of node i, behind so many entries
--   Added               what a node adds: its words and entries, and where they are stored
--   LineRead            a line without its newline: it is wrong, or the node is stored
--   EntriesRead         the entries of a leaf: the line is wrong, or they are stored
--   NodeLineRead        a node's line in its text: a refusal, or the node is stored and the cursor stands behind it
use Rattle.std.specs.Prelude.{ℕ, ◌+◌, ◌*◌, ◌≤◌, ◌<◌, cond, ◌≡◌, List, [], ◌++◌, length, drop, replicate}
use Rattle.std.specs.Prelude.{Err, Ok, Result}
use Rattle.std.proofs.Math.Option.{Option, none, some}
use Rattle.std.proofs.lemmas.List.Edits.{sets}
use Rattle.facts.specs.Lists.{all_under}
use Rattle.refusals.specs.declared.Refusal.{Refusal}
use Rattle.trees.specs.Words.{node_words}
use Rattle.text.specs.declared.cursor.Cursor.{Cursor}
use Rattle.text.specs.Words.{tab}
use Rattle.text.specs.Places.{following}
use Rattle.text.specs.Line.{fields_from, wholly}
use Rattle.text.specs.Text.{refused}
use Rattle.text.specs.Onward.{Stands}
use Rattle.text.specs.Cursors.{wrong_at, cursor_at}
use Rattle.tree_file.specs.declared.read.Counts.{Counts}
use Rattle.tree_file.specs.TreeText.{step}
use Rattle.tree_file.specs.ReadSteps.{Limits, in_nodes, tree_from}

abbrev pub on_entries : ℕ → Option (List ℕ) → Option (List ℕ)
on_entries n none = none
on_entries n (some es) = cond (all_under n es) (some es) none

unfoldable pub entries_of : ℕ → ℕ → List ℕ → Option (List ℕ)
entries_of n c bs = on_entries n (wholly (fields_from [] (replicate c tab) bs))

pub record Turn (k : Counts) (i filled : ℕ) : Type 0 where
  pub limits : Limits k
  pub node : i < k.nodes
  pub pool : filled ≤ k.pool

pub record Added (k : Counts) (i filled sum : ℕ) (nodes pool nodes' pool' xs ys : List ℕ) : Type 0 where
  pub size : length xs ≡ node_words
  pub more : sum ≡ filled + length ys
  pub fits : sum ≤ k.pool
  pub nodes_are : nodes' ≡ sets nodes (i * node_words) xs
  pub pool_is : pool' ≡ sets pool filled ys

pub data EntriesRead (s : List ℕ) (c : Cursor) (n count filled : ℕ) (pool pool' : List ℕ) :
    Result (ℕ × Cursor) Refusal → Type 0 where
  refuses :
      {why : Refusal} → entries_of n count (drop c.at s) ≡ none → why ≡ wrong_at c.lines →
      EntriesRead s c n count filled pool pool' (Err why)
  stores :
      {sum : ℕ} {d : Cursor} (ys : List ℕ) → entries_of n count (drop c.at s) ≡ some ys → length ys ≡ count →
      sum ≡ filled + count → d ≡ cursor_at (length s + 1) (following c.lines) → pool' ≡ sets pool filled ys →
      EntriesRead s c n count filled pool pool' (Ok (sum, d))

pub data LineRead (s : List ℕ) (c : Cursor) (k : Counts) (i filled : ℕ) (nodes pool nodes' pool' : List ℕ) :
    (Result (ℕ × Cursor) Refusal) → Type 0 where
  refuses :
      {why : Refusal} → why ≡ wrong_at c.lines →
      ((ws es : List ℕ) → length es ≡ filled → step (in_nodes k i ws es) (drop c.at s) ≡ none) →
      LineRead s c k i filled nodes pool nodes' pool' (Err why)
  stores :
      {sum : ℕ} {d : Cursor} (xs ys : List ℕ) → Added k i filled sum nodes pool nodes' pool' xs ys →
      d ≡ cursor_at (length s + 1) (following c.lines) →
      ((ws es : List ℕ) → length es ≡ filled →
      step (in_nodes k i ws es) (drop c.at s) ≡ some (in_nodes k (i + 1) (ws ++ xs) (es ++ ys))) →
      LineRead s c k i filled nodes pool nodes' pool' (Ok (sum, d))

pub data NodeLineRead (s : List ℕ) (c : Cursor) (k : Counts) (i filled : ℕ) (nodes pool nodes' pool' : List ℕ) :
    (Result (ℕ × Cursor) Refusal) → Type 0 where
  refuses :
      {why : Refusal} →
      ((ws es : List ℕ) → length es ≡ filled → tree_from (in_nodes k i ws es) s c ≡ refused why) →
      NodeLineRead s c k i filled nodes pool nodes' pool' (Err why)
  stores :
      {sum : ℕ} {d : Cursor} (xs ys : List ℕ) → Added k i filled sum nodes pool nodes' pool' xs ys → Stands s d →
      ((ws es : List ℕ) → length es ≡ filled →
      tree_from (in_nodes k i ws es) s c ≡ tree_from (in_nodes k (i + 1) (ws ++ xs) (es ++ ys)) s d) →
      NodeLineRead s c k i filled nodes pool nodes' pool' (Ok (sum, d))
