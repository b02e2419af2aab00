-- The tree of a part, by what its node is: the choice of the code says what stands in the definition.
use Rattle.trees.specs.declared.words.Node.{Node}
use Rattle.trees.specs.Standing.{Cut, Leaf, Missing}
use Rattle.std.specs.Prelude.{Option}
use Prim.Native.Nat.{ℕ, zero, suc, ◌+◌, ◌-◌, ◌<◌}
use native.Mathlib.Omega.{arith}
use mathlib.Core.Bool.{true, false, cond}
use mathlib.Core.Path.{◌≡◌, refl, sym, ◌∙◌}
use mathlib.Core.Logic.{◌⊎◌, inl, inr}
use mathlib.Core.List.{List}
use lib.ListN.{take, drop}
use lib.Dec.{eqb}
use borrow.Author.Tests.{ne_eqb}
use Rattle.facts.proofs.Bools.{sure}
use Rattle.fields.specs.Cuts.{left_part, right_part}
use Rattle.fields.proofs.Cuts.{left_divided, right_divided}
use Rattle.trees.specs.Words.{entries}
use Rattle.trees.specs.Node.{node_at}
use Rattle.trees.proofs.Nodes.{missing_means, leaf_is, cut_is}
use Rattle.built.specs.Boxes.{meeting}
use Rattle.built.specs.CutValues.{chosen_field, chosen_value, stops}
use Rattle.built.specs.Trees.{leaf, cut, grown}
use Rattle.built.specs.Layout.{size}
use Rattle.built.specs.GrownOn.{grown_on}
use Rattle.built.proofs.Chosen.{chosen_divides}
use Rattle.built.proofs.GrownTrees.{grown_zero, grown_stops, grown_divided}
use Rattle.built.proofs.GrowingOn.{on_missing, on_leaf, on_deep, on_cut}
use Rattle.builder.specs.declared.choice.Choice.TheVariants as choice
use Rattle.builder.specs.Choices.{fresh_choice, choice_in, choice_of}

-- ---- a node that does not stand

module _ (n : ℕ) (boxes : List (List (List ℕ))) (b : List (List ℕ)) where
  fresh_stops : (k : ℕ) → stops n boxes b ≡ true → fresh_choice (suc k) n boxes b ≡ choice.Leaf
  unfolding fresh_choice
  fresh_stops k e = rw (ne_eqb (suc k) 0 (λ q. omega arith), e)

  fresh_cuts :
      (k : ℕ) → stops n boxes b ≡ false →
      fresh_choice (suc k) n boxes b ≡ choice.Cut (chosen_field n boxes b) (chosen_value n boxes b)
  unfolding fresh_choice
  fresh_cuts k e = rw (ne_eqb (suc k) 0 (λ q. omega arith), e)

  fresh_end : fresh_choice zero n boxes b ≡ choice.Leaf
  unfolding fresh_choice
  fresh_end = refl

  -- where a leaf is chosen, a leaf is grown
  fresh_leaf : (k : ℕ) → fresh_choice k n boxes b ≡ choice.Leaf → grown k n boxes b ≡ leaf (meeting n boxes b)
  fresh_leaf zero e = grown_zero n boxes b
  fresh_leaf (suc k) e = go (sure (stops n boxes b))
    where
      go :
          (stops n boxes b ≡ true) ⊎ (stops n boxes b ≡ false) →
          grown (suc k) n boxes b ≡ leaf (meeting n boxes b)
      go (inl s) = grown_stops n boxes b k s
      go (inr s) =
          let w = sym e ∙ fresh_cuts k s in let z : ◌≡◌ {A = ℕ} 0 1 = cc in absurd (omega arith)

  -- where a cut is chosen, a cut is grown, and one is allowed
  fresh_cut :
      (k : ℕ) {f v : ℕ} → fresh_choice k n boxes b ≡ choice.Cut f v →
      (0 < k) ×
      (grown k n boxes b ≡ cut f v (grown (k - 1) n boxes (left_part b f v)) (grown (k - 1) n boxes (right_part b f v)))
  fresh_cut zero e = let w = sym e ∙ fresh_end in let z : ◌≡◌ {A = ℕ} 0 1 = cc in absurd (omega arith)
  fresh_cut (suc k) {f} {v} e = go (sure (stops n boxes b))
    where
      go :
          (stops n boxes b ≡ true) ⊎ (stops n boxes b ≡ false) →
          (0 < suc k) ×
          (grown (suc k) n boxes b ≡
          cut f v (grown (suc k - 1) n boxes (left_part b f v)) (grown (suc k - 1) n boxes (right_part b f v)))
      go (inl s) = let w = sym e ∙ fresh_stops k s in let z : ◌≡◌ {A = ℕ} 0 1 = cc in absurd (omega arith)
      go (inr s) =
          let w = sym e ∙ fresh_cuts k s in
          let field : f ≡ chosen_field n boxes b = cc in
          let value : v ≡ chosen_value n boxes b = cc in
          let d = chosen_divides n boxes b s in
          let less : suc k - 1 ≡ k = omega arith in (
            omega arith,
            rw (less, field, value, left_divided b _ _ d, right_divided b _ _ d) (grown_divided n boxes b k s),
          )

-- ---- a node by its choice

-- where one more cut is allowed, a cut that stands is chosen
cut_stays : (k f v : ℕ) → cond (eqb (suc k) 0) choice.Leaf (choice.Cut f v) ≡ choice.Cut f v
cut_stays k f v = rw (ne_eqb (suc k) 0 (λ q. omega arith))

module _ (n : ℕ) (boxes : List (List (List ℕ))) (nodes pool : List ℕ) (b : List (List ℕ)) (i : ℕ) where
  -- a leaf lists what meets the box
  pub tree_leaf :
      (k : ℕ) → choice_of k n boxes nodes b i ≡ choice.Leaf →
      grown_on k n boxes nodes pool b i ≡ leaf (meeting n boxes b)
  unfolding choice_of choice_in
  tree_leaf k e = go k (node_at nodes i) refl e
    where
      go :
          (k : ℕ) (x : Option Node) → node_at nodes i ≡ x → choice_in k (fresh_choice k n boxes b) x ≡ choice.Leaf →
          grown_on k n boxes nodes pool b i ≡ leaf (meeting n boxes b)
      go k Missing q t =
          on_missing n boxes nodes pool b i k (missing_means nodes i q) ∙ fresh_leaf n boxes b k t
      go k (Leaf s c) q t = let z : ◌≡◌ {A = ℕ} 0 1 = cc in absurd (omega arith)
      go zero (Cut f v w) q t =
          let c = cut_is nodes i q in on_deep n boxes nodes pool b i c.there c.below_mark
      go (suc k) (Cut f v w) q t =
          let c = sym t ∙ cut_stays k f v in let z : ◌≡◌ {A = ℕ} 0 1 = cc in absurd (omega arith)

  -- a leaf that stands has the entries that are kept
  pub tree_stands :
      (k : ℕ) {start count : ℕ} → node_at nodes i ≡ Leaf start count →
      grown_on k n boxes nodes pool b i ≡ leaf (take count (drop start pool))
  unfolding entries
  tree_stands k q =
      let l = leaf_is nodes i q in
      on_leaf n boxes nodes pool b i l.there k l.mark ∙ rw (← l.start, ← l.count)

  -- a cut has its left part, from the next node on, and behind it its right part, each with one cut fewer allowed
  pub tree_cut :
      (k : ℕ) {f v : ℕ} → choice_of k n boxes nodes b i ≡ choice.Cut f v →
      (0 < k) ×
      (let x = grown_on (k - 1) n boxes nodes pool (left_part b f v) (i + 1) in
      grown_on k n boxes nodes pool b i ≡
      cut f v x (grown_on (k - 1) n boxes nodes pool (right_part b f v) (i + 1 + size x)))
  unfolding choice_of choice_in
  tree_cut k {f} {v} e = go k (node_at nodes i) refl e
    where
      go :
          (k : ℕ) (x : Option Node) → node_at nodes i ≡ x → choice_in k (fresh_choice k n boxes b) x ≡ choice.Cut f v →
          (0 < k) ×
          (let x = grown_on (k - 1) n boxes nodes pool (left_part b f v) (i + 1) in
          grown_on k n boxes nodes pool b i ≡
          cut f v x (grown_on (k - 1) n boxes nodes pool (right_part b f v) (i + 1 + size x)))
      go k Missing q t =
          let past = missing_means nodes i q in
          let w = fresh_cut n boxes b k t in (
            w.0,
            rw (
              on_missing n boxes nodes pool (left_part b f v) (i + 1) (k - 1) (omega arith),
              on_missing n boxes nodes pool (right_part b f v) (i + 1 + size (grown (k - 1) n boxes (left_part b f v)))
                  (k - 1) (omega arith),
            )
                (on_missing n boxes nodes pool b i k past ∙ w.1),
          )
      go k (Leaf s c) q t = let z : ◌≡◌ {A = ℕ} 0 1 = cc in absurd (omega arith)
      go zero (Cut g w child) q t = let z : ◌≡◌ {A = ℕ} 0 1 = cc in absurd (omega arith)
      go (suc k) (Cut g w child) q t =
          let c = cut_is nodes i q in
          let u = sym (cut_stays k g w) ∙ t in
          let field : g ≡ f = cc in
          let value : w ≡ v = cc in
          let less : suc k - 1 ≡ k = omega arith in (
            omega arith,
            rw less
                (on_cut n boxes nodes pool b i c.there c.below_mark k (sym c.field ∙ field)
                (sym c.value ∙ value)),
          )
