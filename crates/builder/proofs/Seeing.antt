-- What a look at the first node of a part says of the part: it does not fit; it is a leaf; or it is a cut.
use Rattle.std.specs.Prelude.{Err, Option, Result}
use Rattle.builder.specs.declared.grow.Look.{Look}
use Rattle.builder.specs.Said.{LooksBud, LooksCut, LooksLeaf}
use Prim.Native.Nat.{ℕ, ◌+◌, ◌*◌, ◌≤◌, ◌<◌}
use native.Mathlib.Omega.{arith}
use mathlib.Core.Path.{◌≡◌, sym, ap, subst, ◌∙◌}
use mathlib.Core.List.{List}
use lib.ListN.{length, take}
use lib.Seq.{length-take-le}
use Rattle.refusals.specs.declared.Refusal.{Refusal}
use Rattle.refusals.specs.Verdict as verdict
use Rattle.fields.specs.Words.{field_count}
use Rattle.rules.specs.Words.{most_rules}
use Rattle.trees.specs.Words.{node_words}
use Rattle.built.specs.Boxes.{meeting}
use Rattle.built.specs.Trees.{bud, leaf}
use Rattle.built.proofs.FirstNode.{first_node_short}
use Rattle.built.proofs.FullTrees.{full_some, on_full}
use Rattle.built.proofs.Stopping.{up_to_end, up_to_leaf, up_to_some}
use Rattle.builder.specs.declared.choice.Choice.TheVariants as choice
use Rattle.builder.specs.declared.grow.Spot.{Spot}
use Rattle.builder.specs.declared.grow.Room.{Room}
use Rattle.builder.specs.BoxWords.{boxes_in}
use Rattle.builder.specs.Choices.{choice_of}
use Rattle.builder.specs.Growing.{tree_at, grown_at, fits_at, LeafFits, Growable}
use Rattle.builder.specs.Growing.{Looked, is_bud, short, is_leaf, is_cut}

module _ (ws standing kept : List ℕ) (b : List (List ℕ)) (spot : Spot) (room : Room) (met : List ℕ) where
  -- a leaf is seen: its words fit, and these are its entries
  pub record SeenLeaf (count : ℕ) : Type 0 where
    pub before : spot.node < room.end
    pub there : (spot.node + 1) * node_words ≤ room.nodes
    pub few : count ≤ most_rules
    pub tree : tree_at ws standing kept b spot ≡ leaf (take count met)

  -- a cut is seen: its words fit, and these numbers meet its box
  pub record SeenCut (f v count : ℕ) : Type 0 where
    pub before : spot.node < room.end
    pub there : (spot.node + 1) * node_words ≤ room.nodes
    pub few : count ≤ most_rules
    pub chosen : choice_of spot.cuts field_count (boxes_in ws) standing b spot.node ≡ choice.Cut f v
    pub meets : take count met ≡ meeting field_count (boxes_in ws) b

module _ {ws standing kept : List ℕ} {b : List (List ℕ)} {spot : Spot} {room : Room} {met : List ℕ} where
  -- where no part is said to begin, none does
  pub seen_bud :
      {r : Result (Option Look) Refusal} → Looked ws standing kept b spot room met r → r ≡ LooksBud →
      grown_at ws standing kept b spot room ≡ bud
  seen_bud w e = go (subst (λ (x : Result (Option Look) Refusal). Looked ws standing kept b spot room met x) e w)
    where
      go : Looked ws standing kept b spot room met LooksBud → grown_at ws standing kept b spot room ≡ bud
      go (is_bud h) = up_to_end room.end (tree_at ws standing kept b spot) spot.node h

  -- a first node that does not fit is refused
  pub seen_short :
      {r : Result (Option Look) Refusal} {why : Refusal} → Looked ws standing kept b spot room met r → r ≡ Err why →
      fits_at (grown_at ws standing kept b spot room) spot room ≡ verdict.Refused why
  seen_short {why = why} w e = go (subst (λ (x : Result (Option Look) Refusal). Looked ws standing kept b spot room met x) e w)
    where
      go :
          Looked ws standing kept b spot room met (Err why) →
          fits_at (grown_at ws standing kept b spot room) spot room ≡ verdict.Refused why
      go (short l h q) =
          first_node_short (grown_at ws standing kept b spot room) spot.node spot.entries room.nodes
          room.pool
          (up_to_some room.end (tree_at ws standing kept b spot) spot.node l
          (full_some (on_full spot.cuts field_count (boxes_in ws) standing kept b spot.node))) h ∙
          ap verdict.Refused (sym q)

  -- where a leaf is said, a leaf is seen
  pub seen_leaf :
      {r : Result (Option Look) Refusal} {count : ℕ} → Looked ws standing kept b spot room met r → r ≡ LooksLeaf count →
      SeenLeaf ws standing kept b spot room met count
  seen_leaf {count = count} w e = go (subst (λ (x : Result (Option Look) Refusal). Looked ws standing kept b spot room met x) e w)
    where
      go : Looked ws standing kept b spot room met (LooksLeaf count) → SeenLeaf ws standing kept b spot room met count
      go (is_leaf l h n q) = record { before = l; there = h; few = n; tree = q }

  -- what is grown of a leaf that is seen is the leaf
  pub leaf_grows :
      {count : ℕ} → SeenLeaf ws standing kept b spot room met count →
      grown_at ws standing kept b spot room ≡ leaf (take count met)
  leaf_grows {count} s =
      rw s.tree (up_to_leaf room.end (take count met) spot.node s.before)

  -- where a cut is said, a cut is seen
  pub seen_cut :
      {r : Result (Option Look) Refusal} {f v count : ℕ} → Looked ws standing kept b spot room met r → r ≡ LooksCut f v count →
      SeenCut ws standing kept b spot room met f v count
  seen_cut {f = f} {v = v} {count = count} w e =
      go (subst (λ (x : Result (Option Look) Refusal). Looked ws standing kept b spot room met x) e w)
    where
      go :
          Looked ws standing kept b spot room met (LooksCut f v count) →
          SeenCut ws standing kept b spot room met f v count
      go (is_cut l h n q m) = record { before = l; there = h; few = n; chosen = q; meets = m }

module _ {ws above standing kept : List ℕ} {b : List (List ℕ)} {spot : Spot} {room : Room} {met : List ℕ}
    (g : Growable ws above standing kept b spot room) where
  -- what a leaf that is seen asks for
  pub leaf_asks :
      {count : ℕ} → SeenLeaf ws standing kept b spot room met count → count ≤ length met →
      LeafFits (take count met) spot room
  leaf_asks {count} s l =
      record { node = s.there; nodes = g.nodes; count = omega (arith, size); place = g.entries }
    where
      size : length (take count met) ≡ count
      size = length-take-le count met l
