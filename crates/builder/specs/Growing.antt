-- Growing a tree from the nodes that stand already, in the code's types. Definitions only.
--   tree_at            the tree of a part that begins at a spot, where the nodes of `standing` stand already and have
--                      their entries in `kept`. The build begins with none
--   grown_at           what is grown of it before the room's end
--   left_spot, right_spot  where the parts of a cut begin
--   grown_said v t i s  what is said of the tree t from node i and place s on, by the verdict v
--   fits_at t spot room    whether the tree t fits from a spot on
--   GrownPart          what growing a part leaves: its answer, and its words where it fits
--   LeafFits           what a leaf asks for: its words fit, and its entries are few
--   Growable           what growing a part asks for
--   Looked             what a part begins with: it is not begun; its node does not fit; a leaf and its entries; or a
--                      cut, and the numbers of the boxes that meet its box
use Rattle.builder.specs.declared.grow.Look.{Look}
use Rattle.builder.specs.declared.grow.Grown.{Grown}
use Rattle.builder.specs.Said.{Grows, LooksBud, LooksCut, LooksLeaf}
use Rattle.std.specs.Prelude.{ℕ, ◌+◌, ◌-◌, ◌*◌, ◌≤◌, ◌<◌, true, ◌≡◌, List, length, take, Err, Option, Result}
use Rattle.std.proofs.lemmas.List.Edits.{sets}
use Rattle.facts.specs.Lists.{keep, all_under}
use Rattle.refusals.specs.declared.Refusal.{Refusal}
use Rattle.refusals.specs.declared.Refusal.TheVariants.{OutputShort}
use Rattle.refusals.specs.Verdict.{Verdict}
use Rattle.refusals.specs.Verdict as verdict
use Rattle.fields.specs.Words.{field_count}
use Rattle.fields.specs.Boxes.{Pairs}
use Rattle.rules.specs.Words.{most_rules}
use Rattle.trees.specs.Words.{node_words, most_nodes, most_pool}
use Rattle.trees.specs.Spelt.{Spelt}
use Rattle.tree_check.specs.Whole.{most_cuts}
use Rattle.built.specs.Boxes.{meeting}
use Rattle.built.specs.Trees.{Tree, leaf}
use Rattle.built.specs.Layout.{size, pooled, laid, fits}
use Rattle.built.specs.GrownOn.{grown_on}
use Rattle.built.specs.Stops.{up_to, last_open}
use Rattle.builder.specs.declared.choice.Choice.TheVariants as choice
use Rattle.builder.specs.declared.grow.Spot.{Spot}
use Rattle.builder.specs.declared.grow.Room.{Room}
use Rattle.builder.specs.BoxWords.{box_count, boxes_in, met_by}
use Rattle.builder.specs.Choices.{choice_of}

abbrev pub tree_at : List ℕ → List ℕ → List ℕ → List (List ℕ) → Spot → Tree
tree_at ws standing kept b spot = grown_on spot.cuts field_count (boxes_in ws) standing kept b spot.node

abbrev pub grown_at : List ℕ → List ℕ → List ℕ → List (List ℕ) → Spot → Room → Tree
grown_at ws standing kept b spot room = up_to room.end (tree_at ws standing kept b spot) spot.node

abbrev pub left_spot : Spot → Spot
left_spot spot = record { node = spot.node + 1; entries = spot.entries; cuts = spot.cuts - 1 }

abbrev pub right_spot : Spot → ℕ → ℕ → Spot
right_spot spot next entries = record { node = next; entries = entries; cuts = spot.cuts - 1 }

abbrev pub grown_said : Verdict → Tree → ℕ → ℕ → Result Grown Refusal
grown_said verdict.Fine t i s = Grows (i + size t) (s + length (pooled t)) (last_open t)
grown_said (verdict.Refused why) t i s = Err why

abbrev pub fits_at : Tree → Spot → Room → Verdict
fits_at t spot room = fits t spot.node spot.entries room.nodes room.pool

pub record GrownPart
    (t : Tree) (spot : Spot) (room : Room) (nodes pool : List ℕ) (r : Result Grown Refusal) (nodes' pool' : List ℕ) : Type 0 where
  pub answers : r ≡ grown_said (fits_at t spot room) t spot.node spot.entries
  pub nodes_left :
      fits_at t spot room ≡ verdict.Fine →
      nodes' ≡ sets nodes (spot.node * node_words) (laid t spot.node spot.entries)
  pub pool_left : fits_at t spot room ≡ verdict.Fine → pool' ≡ sets pool spot.entries (pooled t)

pub record LeafFits (l : List ℕ) (spot : Spot) (room : Room) : Type 0 where
  pub node : (spot.node + 1) * node_words ≤ room.nodes
  pub nodes : room.nodes ≤ most_nodes * node_words
  pub count : length l ≤ most_rules
  pub place : spot.entries ≤ most_pool

pub record Growable (ws above standing kept : List ℕ) (b : List (List ℕ)) (spot : Spot) (room : Room) : Type 0 where
  pub few : box_count ws ≤ most_rules
  pub known : all_under (box_count ws) above ≡ true
  pub reaches : keep (met_by ws b) above ≡ meeting field_count (boxes_in ws) b
  pub pairs : Pairs field_count b
  pub spelt : Spelt (box_count ws) standing kept
  pub cuts : spot.cuts ≤ most_cuts
  pub node : spot.node ≤ most_nodes
  pub entries : spot.entries ≤ most_pool
  pub nodes : room.nodes ≤ most_nodes * node_words
  pub pool : room.pool ≤ most_pool

pub data Looked
    (ws standing kept : List ℕ) (b : List (List ℕ)) (spot : Spot) (room : Room) (met : List ℕ) : Result (Option Look) Refusal → Type 0 where
  is_bud : room.end ≤ spot.node → Looked ws standing kept b spot room met LooksBud
  short :
      {why : Refusal} → spot.node < room.end → room.nodes < (spot.node + 1) * node_words →
      why ≡ OutputShort ((spot.node + 1) * node_words) 0 → Looked ws standing kept b spot room met (Err why)
  is_leaf :
      {count : ℕ} → spot.node < room.end → (spot.node + 1) * node_words ≤ room.nodes → count ≤ most_rules →
      tree_at ws standing kept b spot ≡ leaf (take count met) →
      Looked ws standing kept b spot room met (LooksLeaf count)
  is_cut :
      {f v count : ℕ} → spot.node < room.end → (spot.node + 1) * node_words ≤ room.nodes → count ≤ most_rules →
      choice_of spot.cuts field_count (boxes_in ws) standing b spot.node ≡ choice.Cut f v →
      take count met ≡ meeting field_count (boxes_in ws) b → Looked ws standing kept b spot room met (LooksCut f v count)
