-- A build that is stopped and gone on with: any list, any number of nodes at a time, and any room. Statements only.
--   Stopping    however often it is stopped, it ends in the words or the refusal of a build that was never stopped
--   Others      what comes out of a part that anyone has made
use Rattle.builder.specs.Said.{BuiltTree, Stopped, Whole}
use Rattle.std.specs.Prelude.{ℕ, ◌+◌, ◌*◌, min, max, ◌≡◌, ◌↔◌, List, length, take, Err}
use Rattle.refusals.specs.declared.Refusal.{Refusal}
use Rattle.refusals.specs.Verdict as no
use Rattle.refusals.specs.Verdict.{Fine}
use Rattle.rules.specs.Words.{rule_count}
use Rattle.rules.specs.Good.{list_verdict}
use Rattle.trees.specs.Words.{node_words, most_nodes, most_pool, node_count}
use Rattle.tree_check.specs.Serves.{Serves}
use Rattle.tree_check.specs.PartCheck.{so_far_verdict}
use Rattle.built.specs.Boxes.{boxes_of}
use Rattle.built.specs.Layout.{laid}
use Rattle.built.specs.GrownOn.{tree_on}
use Rattle.built.specs.Stops.{up_to, stop_nodes, stop_pool}
use Rattle.built.specs.BuiltTree.{built_tree}
use Rattle.built.specs.StopOf.{StopOf}
use Rattle.built.specs.FirstUnfit.{FirstUnfit}
use Rattle.builder.specs.Build.{TreeBuilt, SomeBuilt, OnBuilt}
use Rattle.builder.specs.Reached.{Reached}

pub record Stopping : Type 0 where
  -- a first step gives the whole tree as the build does; or the stop after so many nodes, at least one; or it is
  -- refused as the build is
  pub first_whole :
      (rs ns es x y : List ℕ) (most n p : ℕ) → SomeBuilt rs most ns es (Whole n p) x y →
      TreeBuilt rs ns es (BuiltTree n p) x y
  pub first_stop :
      (rs ns es x y : List ℕ) (most k p : ℕ) → SomeBuilt rs most ns es (Stopped k p) x y →
      (k ≡ max most 1) × StopOf rs k (take (k * node_words) x) (take p y)
  pub first_refused :
      (rs ns es x y : List ℕ) (most : ℕ) (why : Refusal) → SomeBuilt rs most ns es (Err why) x y →
      TreeBuilt rs ns es (Err why) x y
  -- of a good list it is refused exactly where a node before its stop does not fit: with 4 for the first such node, and
  -- what is wanted there
  pub first_short :
      (rs ns es : List ℕ) (most : ℕ) (why : Refusal) → list_verdict rs ≡ Fine →
      SomeBuilt rs most ns es (Err why) ns es ↔
      FirstUnfit (laid (up_to (max most 1) (built_tree rs) 0) 0 0) (min (length ns) (most_nodes * node_words))
      (min (length es) most_pool) why
  -- what any number of steps comes to is a stop, after as many nodes as it has; any stop is taken; and a step on from
  -- any stop gives the later stop, or the whole tree as the build does, or is refused as the build is
  pub reached : (rs part kept : List ℕ) → Reached rs part kept → StopOf rs (node_count part) part kept
  pub taken :
      (rs part kept : List ℕ) (j : ℕ) → StopOf rs j part kept → so_far_verdict rs (rule_count rs) part kept ≡ Fine
  pub next_stop :
      (rs part kept ns es x y : List ℕ) (j most k p : ℕ) → StopOf rs j part kept →
      OnBuilt rs (rule_count rs) part kept most ns es (Stopped k p) x y →
      (k ≡ j + max most 1) × StopOf rs k (take (k * node_words) x) (take p y)
  pub ends_whole :
      (rs part kept ns es x y : List ℕ) (j most n p : ℕ) → StopOf rs j part kept →
      OnBuilt rs (rule_count rs) part kept most ns es (Whole n p) x y → TreeBuilt rs ns es (BuiltTree n p) x y
  pub ends_refused :
      (rs part kept ns es x y : List ℕ) (j most : ℕ) (why : Refusal) → StopOf rs j part kept →
      OnBuilt rs (rule_count rs) part kept most ns es (Err why) x y → TreeBuilt rs ns es (Err why) x y

pub record Others : Type 0 where
  -- a part that the part check refuses is refused so, and both outputs are as found
  pub refused :
      (rs part kept ns es : List ℕ) (n most : ℕ) (why : Refusal) → so_far_verdict rs n part kept ≡ no.Refused why →
      OnBuilt rs n part kept most ns es (Err why) ns es
  -- what is whole may serve the list; and so the tree check accepts it (`TreeCheck`, `accepts`)
  pub serves :
      (rs part kept ns es x y : List ℕ) (n most m p : ℕ) → OnBuilt rs n part kept most ns es (Whole m p) x y →
      Serves rs (take (m * node_words) x) (take p y)
  -- it begins with the part: the part is its stop after as many nodes as the part has
  pub begins :
      (rs part kept ns es x y : List ℕ) (n most m p : ℕ) → OnBuilt rs n part kept most ns es (Whole m p) x y →
      (part ≡ stop_nodes (node_count part) (take (m * node_words) x)) ×
      (kept ≡ stop_pool (node_count part) (take (m * node_words) x) (take p y))
  -- what is stopped has so many nodes more, is taken, and grows into the tree that the part grows into
  pub goes_on :
      (rs part kept ns es x y : List ℕ) (n most k p : ℕ) → OnBuilt rs n part kept most ns es (Stopped k p) x y →
      (k ≡ node_count part + max most 1) ×
      (so_far_verdict rs (rule_count rs) (take (k * node_words) x) (take p y) ≡ Fine) ×
      (tree_on (boxes_of rs) (take (k * node_words) x) (take p y) ≡ tree_on (boxes_of rs) part kept)
  -- a part that is taken is refused exactly where a node before the stop does not fit: with 4 for the first such node,
  -- and what is wanted there
  pub short :
      (rs part kept ns es : List ℕ) (n most : ℕ) (why : Refusal) → so_far_verdict rs n part kept ≡ Fine →
      OnBuilt rs n part kept most ns es (Err why) ns es ↔
      FirstUnfit (laid (up_to (node_count part + max most 1) (tree_on (boxes_of rs) part kept) 0) 0 0)
      (min (length ns) (most_nodes * node_words)) (min (length es) most_pool) why
