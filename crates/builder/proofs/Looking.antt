-- What growing a part sees at its first node: the numbers that meet its box, a leaf that stands, and where a cut is.
use Rattle.trees.specs.declared.words.Node.{Node}
use Rattle.trees.specs.Standing.{Cut, Leaf, Missing}
use Rattle.std.specs.Prelude.{Option}
use Prim.Native.Nat.{ℕ, ◌+◌, ◌≤◌, ◌<◌}
use native.Mathlib.Omega.{arith}
use mathlib.Core.Bool.{Bool, true, false, cond, ◌||◌}
use mathlib.Core.Path.{◌≡◌, refl, sym, ap, ◌∙◌}
use mathlib.Core.List.{List}
use lib.ListN.{length, take, drop, length-drop}
use lib.Seq.{sets, length-take-le}
use lib.Dec.{eqb}
use Rattle.facts.specs.Lists.{keep, Kept}
use Rattle.facts.proofs.Setting.{written_front}
use Rattle.facts.proofs.Sets.{sets_front}
use Rattle.fields.specs.Words.{field_count}
use Rattle.rules.specs.Words.{most_rules}
use Rattle.trees.specs.Words.{leaf_mark}
use Rattle.trees.specs.Node.{node_at}
use Rattle.trees.specs.Spelt.{Spelt}
use Rattle.trees.proofs.Nodes.{leaf_is, cut_is}
use Rattle.built.specs.Boxes.{meeting}
use Rattle.built.specs.CutValues.{chosen_field, chosen_value, stops}
use Rattle.built.proofs.Meeting.{meeting_at_most}
use Rattle.built.proofs.Chosen.{chosen_there}
use Rattle.builder.specs.declared.choice.Choice.TheVariants as choice
use Rattle.builder.specs.declared.grow.Spot.{Spot}
use Rattle.builder.specs.declared.grow.Room.{Room}
use Rattle.builder.specs.BoxWords.{boxes_in, met_by}
use Rattle.builder.specs.Choices.{fresh_choice, choice_in, choice_of}
use Rattle.builder.specs.ChoiceSteps.{Met}
use Rattle.builder.specs.Growing.{Growable}
use Rattle.builder.proofs.BoxWords.{box_count_lem}

-- ---- the numbers that meet the box

module _ {ws above standing kept : List ℕ} {b : List (List ℕ)} {spot : Spot} {room : Room}
    (g : Growable ws above standing kept b spot room) {found after : List ℕ} {n : ℕ}
    (k : Kept (met_by ws b) above found n after) where
  -- they are no more than a list has rules
  pub met_few : n ≤ most_rules
  met_few =
      omega (arith, k.counts, ap length g.reaches, meeting_at_most field_count (boxes_in ws) b, box_count_lem ws, g.few)

  -- where there is room for as many, they stand in front
  pub met_front : most_rules ≤ length found → take n after ≡ meeting field_count (boxes_in ws) b
  met_front wide =
      let fits : length (keep (met_by ws b) above) ≤ length found = omega (arith, met_few, k.counts) in
      rw (k.stores, sets_front found (keep (met_by ws b) above) fits)
      (written_front (keep (met_by ws b) above) found n (sym k.counts) ∙ g.reaches)

  -- so they are what the choice goes by
  pub met_known : most_rules ≤ length found → Met ws (take n after) b
  met_known wide =
      record {
        is = met_front wide;
        few = omega (
          arith,
          ap length (met_front wide),
          meeting_at_most field_count
              (boxes_in ws) b,
          box_count_lem ws,
          g.few,
        );
      }

-- the entries of a leaf that stands, stored from the front on
pub stands_front :
    (kept : List ℕ) (start count : ℕ) (found : List ℕ) {after : List ℕ} → start + count ≤ length kept →
    count ≤ length found → after ≡ sets found 0 (take count (drop start kept)) →
    take count after ≡ take count (drop start kept)
stands_front kept start count found h room e =
    let size : length (take count (drop start kept)) ≡ count =
    length-take-le count (drop start kept) (omega (arith, length-drop start kept)) in
    rw (e, sets_front found (take count (drop start kept)) (omega (arith, size)))
    (written_front (take count (drop start kept)) found count size)

-- ---- what the choice is of

module _ (k n : ℕ) (boxes : List (List (List ℕ))) (standing : List ℕ) (b : List (List ℕ)) (i : ℕ) where
  fresh_stands :
      (x : Bool) (f v : ℕ) {start count : ℕ} → cond x choice.Leaf (choice.Cut f v) ≡ choice.Stands start count → ⊥
  fresh_stands true f v e = let z : ◌≡◌ {A = ℕ} 0 1 = cc in omega arith
  fresh_stands false f v e = let z : ◌≡◌ {A = ℕ} 0 1 = cc in omega arith

  fresh_cut :
      0 < n → (x y : Bool) {f v : ℕ} →
      cond (x || y) choice.Leaf (choice.Cut (chosen_field n boxes b) (chosen_value n boxes b)) ≡ choice.Cut f v → f < n
  fresh_cut some true y e = let z : ◌≡◌ {A = ℕ} 0 1 = cc in absurd (omega arith)
  fresh_cut some false true e = let z : ◌≡◌ {A = ℕ} 0 1 = cc in absurd (omega arith)
  fresh_cut some false false {f} e =
      let same : chosen_field n boxes b ≡ f = cc in omega (arith, chosen_there n boxes b some)

  -- a leaf that stands is that of its words
  pub stands_leaf :
      {start count : ℕ} → choice_of k n boxes standing b i ≡ choice.Stands start count →
      node_at standing i ≡ Leaf start count
  unfolding choice_of choice_in fresh_choice
  stands_leaf {start} {count} e = go (node_at standing i) refl e
    where
      go :
          (x : Option Node) → node_at standing i ≡ x → choice_in k (fresh_choice k n boxes b) x ≡ choice.Stands start count →
          node_at standing i ≡ Leaf start count
      go Missing q t =
          absurd (fresh_stands (eqb k 0 || stops n boxes b) (chosen_field n boxes b) (chosen_value n boxes b) t)
      go (Leaf s c) q t = q ∙ (let z = t in cc)
      go (Cut f v w) q t = absurd (fresh_stands (eqb k 0) f v t)

  -- its entries lie within those that are kept, and are no more than there are boxes, where the words are spelt
  pub stands_within :
      {m : ℕ} {kept : List ℕ} {start count : ℕ} → Spelt m standing kept →
      choice_of k n boxes standing b i ≡ choice.Stands start count → (start + count ≤ length kept) × (count ≤ m)
  stands_within spelt e =
      let l = leaf_is standing i (stands_leaf e) in
      let s = spelt.leaf i l.there l.mark in
      (rw (l.start, l.count) s.within, rw l.count s.count)

  -- the field of a cut is one of the n fields, where the tree's cuts have no more
  pub cut_field : {f v : ℕ} → leaf_mark ≤ n → choice_of k n boxes standing b i ≡ choice.Cut f v → f < n
  unfolding choice_of choice_in fresh_choice
  cut_field {f} {v} all e = go (node_at standing i) refl e
    where
      kept_cut : (x : Bool) (g w : ℕ) → cond x choice.Leaf (choice.Cut g w) ≡ choice.Cut f v → g ≡ f
      kept_cut true g w t = let z : ◌≡◌ {A = ℕ} 0 1 = cc in absurd (omega arith)
      kept_cut false g w t = cc

      go :
          (x : Option Node) → node_at standing i ≡ x → choice_in k (fresh_choice k n boxes b) x ≡ choice.Cut f v → f < n
      go Missing q t = fresh_cut (omega (arith, all)) (eqb k 0) (stops n boxes b) t
      go (Leaf s c) q t = let z : ◌≡◌ {A = ℕ} 0 1 = cc in absurd (omega arith)
      go (Cut g w child) q t =
          let c = cut_is standing i q in omega (arith, kept_cut (eqb k 0) g w t, c.field, c.below_mark, all)
