-- What the steps of the build ask for and leave. Definitions only.
--   root_spot          where the root begins
--   room_of a b e      the room, where a node words and b pool words are lent and no node from e on is grown
--   Rooted ws standing kept room    what growing from the root asks for
--   RootGrown t        what growing from the root leaves: its answer for the tree t, and the words of t in front of
--                      both outputs where they fit
--   most_end           no node from here on is grown: a tree has no room for the one before it
--   end_of k most       where a step stops that begins with k nodes: so many nodes on, but not past that end
use Rattle.refusals.specs.declared.Refusal.{Refusal}
use Rattle.builder.specs.declared.grow.Grown.{Grown}
use Rattle.std.specs.Prelude.{ℕ, ◌+◌, ◌*◌, ◌≤◌, min, ◌≡◌, List, length, Result}
use Rattle.facts.specs.Lists.{written}
use Rattle.refusals.specs.Order.{leaving}
use Rattle.rules.specs.Words.{most_rules}
use Rattle.trees.specs.Words.{node_words, most_nodes, most_pool}
use Rattle.trees.specs.Spelt.{Spelt}
use Rattle.tree_check.specs.Whole.{most_cuts}
use Rattle.built.specs.Trees.{Tree}
use Rattle.built.specs.Layout.{pooled, laid}
use Rattle.built.specs.BuiltTree.{tree_fits}
use Rattle.builder.specs.declared.grow.Spot.{Spot}
use Rattle.builder.specs.declared.grow.Room.{Room}
use Rattle.builder.specs.BoxWords.{box_count}
use Rattle.builder.specs.Growing.{grown_said}
use Rattle.builder.specs.Build.{at_least_one}

abbrev pub root_spot : Spot
root_spot = record { node = 0; entries = 0; cuts = most_cuts }

abbrev pub room_of : ℕ → ℕ → ℕ → Room
room_of a b e = record { nodes = min a (most_nodes * node_words); pool = min b most_pool; end = e }

pub record Rooted (ws standing kept : List ℕ) (room : Room) : Type 0 where
  pub few : box_count ws ≤ most_rules
  pub spelt : Spelt (box_count ws) standing kept
  pub nodes : room.nodes ≤ most_nodes * node_words
  pub pool : room.pool ≤ most_pool

pub record RootGrown (t : Tree) (nodes pool : List ℕ) (r : Result Grown Refusal) (nodes' pool' : List ℕ) : Type 0 where
  pub answers : r ≡ grown_said (tree_fits t (length nodes) (length pool)) t 0 0
  pub nodes_left :
      nodes' ≡ leaving (tree_fits t (length nodes) (length pool)) (written (laid t 0 0) nodes) nodes
  pub pool_left : pool' ≡ leaving (tree_fits t (length nodes) (length pool)) (written (pooled t) pool) pool

abbrev pub most_end : ℕ
most_end = most_nodes + 1

unfoldable pub end_of : ℕ → ℕ → ℕ
end_of k most = min (k + at_least_one most) most_end
