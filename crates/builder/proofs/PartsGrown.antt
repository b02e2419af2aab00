-- A part grown from its node: a leaf, stored; a cut whose left part is refused; and a cut whose left part, own words
-- and right part are stored in turn.
use Rattle.std.specs.Prelude.{Err, Result}
use Rattle.builder.specs.declared.grow.Grown.{Grown}
use Rattle.builder.specs.Said.{Grows}
use Prim.Native.Nat.{ℕ, ◌+◌, ◌*◌, ◌≤◌}
use native.Mathlib.Omega.{arith}
use mathlib.Core.Bool.{Bool, true, false}
use mathlib.Core.Path.{◌≡◌, refl, sym, ap, ◌∙◌}
use mathlib.Core.List.{List, [], ◌∷◌}
use lib.ListN.{length, length-append}
use lib.Seq.{sets}
use Rattle.refusals.specs.declared.Refusal.{Refusal}
use Rattle.refusals.specs.Verdict.{Verdict}
use Rattle.refusals.specs.Verdict as verdict
use Rattle.trees.specs.Words.{node_words, leaf_mark}
use Rattle.built.specs.Trees.{Tree, bud, leaf, cut}
use Rattle.built.specs.Layout.{size, pooled, right_child, laid, fits}
use Rattle.built.specs.Stops.{last_open}
use Rattle.built.proofs.FirstNode.{left_refuses, right_decides, leaf_fits}
use Rattle.built.proofs.PartWords.{cut_words, cut_entries}
use Rattle.builder.specs.declared.grow.Spot.{Spot}
use Rattle.builder.specs.declared.grow.Room.{Room}
use Rattle.builder.specs.Growing.{left_spot, right_spot, grown_said, fits_at, GrownPart}
use Rattle.builder.proofs.PartAnswers.{part_refused, refused_says, part_says}

-- a part that is not begun leaves all as it is
pub bud_grown :
    (spot : Spot) (room : Room) {nodes pool : List ℕ} →
    GrownPart bud spot room nodes pool (Grows spot.node spot.entries true) nodes pool
unfolding laid pooled size fits last_open
bud_grown spot room =
    let n : spot.node ≡ spot.node + 0 = omega arith in
    let e : spot.entries ≡ spot.entries + 0 = omega arith in
    record { answers = cc; nodes_left = λ _. refl; pool_left = λ _. refl }

module _ (l : List ℕ) (spot : Spot) (room : Room) (there : (spot.node + 1) * node_words ≤ room.nodes)
    {nodes pool nodes' pool' : List ℕ} where
  -- a leaf whose words and entries fit, and are stored
  pub leaf_grown :
      spot.entries + length l ≤ room.pool →
      nodes' ≡ sets nodes (spot.node * node_words) (leaf_mark ∷ spot.entries ∷ length l ∷ []) →
      pool' ≡ sets pool spot.entries l →
      GrownPart (leaf l) spot room nodes pool (Grows (spot.node + 1) (spot.entries + length l) false)
      nodes' pool'
  unfolding laid pooled size last_open
  leaf_grown h p q =
      record {
        answers = rw (leaf_fits spot.node spot.entries room.nodes room.pool there l h);
        nodes_left = λ _. p;
        pool_left = λ _. q;
      }

module _ (f v : ℕ) (x y : Tree) (spot : Spot) (room : Room) (there : (spot.node + 1) * node_words ≤ room.nodes)
    {nodes pool nodes₁ pool₁ : List ℕ} {r : Result Grown Refusal} (left : GrownPart x (left_spot spot) room nodes pool r nodes₁ pool₁)
  where
    -- a cut whose left part is refused is refused so
    pub cut_refused :
        {why : Refusal} {nodes' pool' : List ℕ} → r ≡ Err why →
        GrownPart (cut f v x y) spot room nodes pool (Err why) nodes' pool'
    cut_refused e =
        part_refused
        (left_refuses spot.node spot.entries room.nodes room.pool there f v x y (refused_says left e))

    module _ {next entries : ℕ} {o : Bool} (e : r ≡ Grows next entries o) where
      fine : fits_at x (left_spot spot) room ≡ verdict.Fine
      fine = (part_says left e).0

      after : next ≡ spot.node + 1 + size x
      after = (part_says left e).1

      filled : entries ≡ spot.entries + length (pooled x)
      filled = (part_says left e).2

      decides : fits_at (cut f v x y) spot room ≡ fits_at y (right_spot spot next entries) room
      decides =
          right_decides spot.node spot.entries room.nodes room.pool there f v x y fine ∙ rw
          (← after, ← filled)

      says : (w : Verdict) → grown_said w y next entries ≡ grown_said w (cut f v x y) spot.node spot.entries
      unfolding size pooled last_open
      says verdict.Fine =
          let m : next + size y ≡ spot.node + (1 + size x + size y) = omega (arith, after) in
          let n : entries + length (pooled y) ≡ spot.entries + (length (pooled x) + length (pooled y)) =
          omega (arith, filled) in
          rw (m, length-append (pooled x) (pooled y), n)
      says (verdict.Refused why) = refl

      -- a cut whose left part fits, is stored, and is followed by its own words and its right part
      pub cut_grown :
          {child : ℕ} {nodes₂ nodes' pool' : List ℕ} {r' : Result Grown Refusal} → child ≡ right_child y next →
          nodes₂ ≡ sets nodes₁ (spot.node * node_words) (f ∷ v ∷ child ∷ []) →
          GrownPart y (right_spot spot next entries) room nodes₂ pool₁ r' nodes' pool' →
          GrownPart (cut f v x y) spot room nodes pool r' nodes' pool'
      cut_grown {child} c q right =
          record {
            answers = right.answers ∙ rw decides (says (fits_at y (right_spot spot next entries) room));
            nodes_left =
                λ h.
                right.nodes_left (sym decides ∙ h) ∙
                rw (q, left.nodes_left fine, after, filled)
                (cut_words f v child x y spot.node spot.entries nodes (c ∙ ap (right_child y) after));
            pool_left =
                λ h.
                right.pool_left (sym decides ∙ h) ∙
                rw (left.pool_left fine, filled) (cut_entries f v x y spot.entries pool);
          }
