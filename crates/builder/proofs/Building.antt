-- Growing from the root into words of its own: a refusal stores nothing, and what fits is stored.
use Rattle.std.specs.Prelude.{Err, Result}
use Rattle.builder.specs.declared.grow.Grown.{Grown}
use Rattle.builder.specs.Said.{Grows}
use Prim.Native.Nat.{ℕ, ◌*◌, ◌≤◌}
use native.Mathlib.Nat.{min-le_left, min-le_right}
use native.Mathlib.Omega.{arith}
use mathlib.Core.Bool.{Bool}
use mathlib.Core.Path.{◌≡◌, sym, ◌∙◌}
use mathlib.Core.List.{List}
use lib.ListN.{length, take}
use lib.Seq.{sets, length-take-le}
use Rattle.facts.proofs.Sets.{sets_front}
use Rattle.facts.proofs.Setting.{written_front}
use Rattle.refusals.specs.declared.Refusal.{Refusal}
use Rattle.refusals.specs.Verdict.{Fine}
use Rattle.refusals.proofs.Order.{leaving_refused, leaving_fine}
use Rattle.rules.specs.Words.{most_rules, rule_count, largest_action}
use Rattle.rules.proofs.Lists.{GoodRules}
use Rattle.trees.specs.Words.{node_words, most_nodes, most_pool}
use Rattle.trees.specs.Spelt.{Spelt}
use Rattle.built.specs.Trees.{Tree}
use Rattle.built.specs.Layout.{size, pooled, laid}
use Rattle.built.specs.Stops.{up_to, last_open}
use Rattle.built.specs.BuiltTree.{tree_fits}
use Rattle.built.proofs.Laying.{length_laid}
use Rattle.built.proofs.Accepting.{tree_fits_iff}
use Rattle.builder.specs.declared.grow.Room.{Room}
use Rattle.builder.specs.BoxWords.{box_words, box_count}
use Rattle.builder.specs.Growing.{GrownPart}
use Rattle.builder.specs.BuildSteps.{root_spot, room_of, Rooted, RootGrown}
use Rattle.builder.proofs.PartAnswers.{refused_says, part_says}

-- the room is within the limits of a tree
pub room_rooted :
    (a b e : ℕ) {ws standing kept : List ℕ} {room : Room} → room ≡ room_of a b e → box_count ws ≤ most_rules →
    Spelt (box_count ws) standing kept → Rooted ws standing kept room
room_rooted a b e q h w =
    rw q
    (record { few = h; spelt = w; nodes = min-le_right a (most_nodes * node_words); pool = min-le_right b most_pool })

-- the boxes of a good list are as many as its rules: no more than there may be, and what is spelt for one is for both
pub boxes_ready :
    (rs ws : List ℕ) {standing kept : List ℕ} → GoodRules largest_action rs → length ws ≡ most_rules * box_words →
    Spelt (rule_count rs) standing kept →
    (box_count (take (rule_count rs * box_words) ws) ≤ most_rules) ×
    Spelt (box_count (take (rule_count rs * box_words) ws)) standing kept
boxes_ready rs ws g e spelt =
    let many : box_count (take (rule_count rs * box_words) ws) ≡ rule_count rs =
    omega (arith, g.few, length-take-le (rule_count rs * box_words) ws (omega (arith, g.few))) in
    (omega (arith, many, g.few), rw many spelt)

-- a list stored from the front on, where it has room, stands in front
stored_front : (l xs : List ℕ) (n : ℕ) → length xs ≡ n → n ≤ length l → take n (sets l 0 xs) ≡ xs
stored_front l xs n e h = rw (sets_front l xs (omega arith)) (written_front xs l n e)

module _ (all : Tree) (nodes pool : List ℕ) {room : Room} {end : ℕ}
    (e : room ≡ room_of (length nodes) (length pool) end) {found held words list : List ℕ} {r : Result Grown Refusal}
    (w : GrownPart (up_to room.end all 0) root_spot room found held r words list) where
  -- what is grown
  t : Tree
  t = up_to end all 0

  within : GrownPart t root_spot (room_of (length nodes) (length pool) end) found held r words list
  unfolding t
  within = rw e at w

  -- what is refused there is refused, and both outputs are as found
  pub root_refuses :
      {why : Refusal} {nodes' pool' : List ℕ} → r ≡ Err why → nodes' ≡ nodes → pool' ≡ pool →
      RootGrown (up_to end all 0) nodes pool (Err why) nodes' pool'
  unfolding t
  root_refuses {why} q x y =
      let v = refused_says within q in
      record {
        answers = rw v;
        nodes_left = x ∙ sym (leaving_refused _ _ v);
        pool_left = y ∙ sym (leaving_refused _ _ v);
      }

  module _ {next entries : ℕ} {o : Bool} (q : r ≡ Grows next entries o) where
    fine : tree_fits t (length nodes) (length pool) ≡ Fine
    fine = (part_says within q).0

    -- the nodes and the entries are counted, and so it is open
    counted : (next ≡ size t) × (entries ≡ length (pooled t)) × (o ≡ last_open t)
    counted = let s = part_says within q in (omega (arith, s.1), omega (arith, s.2), s.3)

    -- they fit in what is lent, and within the limits of a tree
    pub root_fits :
        (next * node_words ≤ length nodes) × (next * node_words ≤ most_nodes * node_words) × (entries ≤ length pool) ×
        (entries ≤ most_pool)
    root_fits =
        let u = (tree_fits_iff t (length nodes) (length pool)).0 fine in
        let a = min-le_left (length nodes) (most_nodes * node_words) in
        let b = min-le_right (length nodes) (most_nodes * node_words) in
        let c = min-le_left (length pool) most_pool in
        let d = min-le_right (length pool) most_pool in (
          omega (arith, counted.0, u.0),
          omega (arith, counted.0, u.0),
          omega (arith, counted.1, u.1),
          omega (arith, counted.1, u.1),
        )

    -- what fits is stored in front of both outputs
    pub root_stored :
        {nodes' pool' : List ℕ} → most_nodes * node_words ≤ length found → most_pool ≤ length held →
        nodes' ≡ sets nodes 0 (take (next * node_words) words) → pool' ≡ sets pool 0 (take entries list) →
        RootGrown (up_to end all 0) nodes pool (Grows next entries o) nodes' pool'
    unfolding t
    root_stored f h x y =
        let long : length (laid t 0 0) ≡ next * node_words = omega (arith, length_laid t 0 0, counted.0) in
        let some : length (pooled t) ≡ entries = sym counted.1 in
        let front : take (next * node_words) words ≡ laid t 0 0 =
        rw (within.nodes_left fine) (stored_front found (laid t 0 0) _ long (omega (arith, root_fits.1))) in
        let behind : take entries list ≡ pooled t =
        rw (within.pool_left fine) (stored_front held (pooled t) _ some (omega (arith, root_fits.3))) in
        record {
          answers = sym q ∙ within.answers;
          nodes_left =
              x ∙ rw front (sets_front nodes (laid t 0 0) (omega (arith, long, root_fits.0))) ∙
              sym (leaving_fine _ _ fine);
          pool_left =
              y ∙ rw behind (sets_front pool (pooled t) (omega (arith, some, root_fits.2))) ∙
              sym (leaving_fine _ _ fine);
        }
