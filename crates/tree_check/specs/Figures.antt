-- What the two numbers of an accepted tree are to mean. Definitions only.
--   Figures nodes pool c l    no legal header visits more than c + 1 nodes, or comes to a leaf of more than l entries;
--                             one legal header visits c + 1, and one comes to a leaf of l
--   LedTo nodes x cuts d      the way from the root past these cuts comes to leaf x, whose box is d
--   LeafFigures nodes pool c l    some way comes to each leaf; each has at most c cuts above it and at most l entries;
--                             one leaf has c cuts above it, and one has l entries
use Rattle.std.specs.Prelude.{ℕ, ◌+◌, ◌≤◌, ◌<◌, ◌≡◌, List, length}
use Rattle.fields.specs.Headers.{Legal}
use Rattle.fields.specs.Boxes.{root_box}
use Rattle.trees.specs.Words.{leaf_mark, node_count, field_of, entries}
use Rattle.trees.specs.Walk.{walk_of, visited}
use Rattle.trees.specs.Search.{leaf_list}
use Rattle.tree_check.specs.Leads.{Leads}

pub record Figures (nodes pool : List ℕ) (c l : ℕ) : Type 0 where
  pub visits_most : (h : List ℕ) → Legal h → visited (walk_of nodes h) ≤ c + 1
  pub entries_most : (h : List ℕ) → Legal h → length (leaf_list nodes pool h) ≤ l
  pub visits_met : (h : List ℕ) × Legal h × (visited (walk_of nodes h) ≡ c + 1)
  pub entries_met : (h : List ℕ) × Legal h × (length (leaf_list nodes pool h) ≡ l)

abbrev pub LedTo : List ℕ → ℕ → List ℕ → List (List ℕ) → Type 0
LedTo nodes x cuts d = Leads nodes root_box 0 cuts x d

pub record LeafFigures (nodes pool : List ℕ) (c l : ℕ) : Type 0 where
  pub each :
      (x : ℕ) → x < node_count nodes → field_of nodes x ≡ leaf_mark →
      (cuts : List ℕ) × (d : List (List ℕ)) × LedTo nodes x cuts d
  pub most :
      (x : ℕ) (cuts : List ℕ) (d : List (List ℕ)) → LedTo nodes x cuts d →
      (length cuts ≤ c) × (length (entries nodes pool x) ≤ l)
  pub cuts_met : (x : ℕ) × (cuts : List ℕ) × (d : List (List ℕ)) × LedTo nodes x cuts d × (length cuts ≡ c)
  pub entries_met :
      (x : ℕ) × (cuts : List ℕ) × (d : List (List ℕ)) × LedTo nodes x cuts d × (length (entries nodes pool x) ≡ l)
