-- Going on from a stop: what is grown from the words of a stop is the tree that was stopped, if that was grown from no
-- more nodes.
use Prim.Native.Nat.{ℕ, zero, suc, ◌+◌, ◌≤◌, ◌<◌}
use native.Mathlib.Omega.{arith}
use mathlib.Core.Bool.{Bool, true, false}
use mathlib.Core.Path.{◌≡◌, refl, sym, ap, subst, ◌∙◌}
use mathlib.Core.List.{List}
use lib.ListN.{length}
use Rattle.facts.proofs.Cases.{WithinOrOver, at_most, over, within_or_over}
use Rattle.fields.specs.Words.{field_count}
use Rattle.fields.specs.Cuts.{left_part, right_part}
use Rattle.fields.proofs.Cuts.{left_divided, right_divided}
use Rattle.trees.specs.Words.{leaf_mark, node_count, field_of, value_of}
use Rattle.built.specs.CutValues.{chosen_field, chosen_value, stops}
use Rattle.built.specs.Trees.{Tree, leaf, cut, grown}
use Rattle.built.specs.Layout.{size, pooled}
use Rattle.built.specs.GrownOn.{grown_on}
use Rattle.built.specs.Stops.{up_to}
use Rattle.built.proofs.Chosen.{chosen_there, chosen_divides}
use Rattle.built.proofs.GrownTrees.{grown_zero, grown_stops, grown_divided}
use Rattle.built.proofs.GrowingOn.{on_missing, on_leaf, on_deep, on_cut}
use Rattle.built.proofs.Lying.{Lies, a_leaf, a_cut}
use Rattle.built.proofs.Stopping.{up_to_leaf, up_to_cut, up_to_whole}

-- ---- the first node of a tree that is grown from nodes that stand

module _ (boxes : List (List (List ℕ))) (nodes pool : List ℕ) where
  abbrev grows : ℕ → List (List ℕ) → ℕ → Tree
  grows k b i = grown_on k field_count boxes nodes pool b i

  -- it is a leaf; or a cut of a field, whose parts are grown so with one cut fewer allowed
  data Begins (b : List (List ℕ)) (i : ℕ) : ℕ → Tree → Type 0 where
    leafs : {k : ℕ} {t : Tree} (l : List ℕ) → t ≡ leaf l → Begins b i k t
    cuts :
        {k : ℕ} {t : Tree} (f v : ℕ) → f < leaf_mark →
        (let x = grows k (left_part b f v) (i + 1) in
        t ≡ cut f v x (grows k (right_part b f v) (i + 1 + size x))) →
        Begins b i (suc k) t

  module _ (b : List (List ℕ)) (i : ℕ) where
    fresh_begins : (k : ℕ) → node_count nodes ≤ i → Begins b i k (grows k b i)
    fresh_begins zero h =
        leafs _ (on_missing field_count boxes nodes pool b i zero h ∙ grown_zero field_count boxes b)
    fresh_begins (suc k) h = go (stops field_count boxes b) refl
      where
        go : (t : Bool) → stops field_count boxes b ≡ t → Begins b i (suc k) (grows (suc k) b i)
        go true e =
            leafs _ (on_missing field_count boxes nodes pool b i (suc k) h ∙ grown_stops field_count boxes b k e)
        go false e =
            let f = chosen_field field_count boxes b in
            let v = chosen_value field_count boxes b in
            let d = chosen_divides field_count boxes b e in
            let x = grown k field_count boxes (left_part b f v) in
            cuts {k = k} {t = grows (suc k) b i} f v (chosen_there field_count boxes b (omega arith))
            (rw (
              on_missing field_count boxes nodes pool (left_part b f v) (i + 1) k (omega arith),
              on_missing field_count boxes nodes pool (right_part b f v) (i + 1 + size x) k (omega arith),
              left_divided b f v d,
              right_divided b f v d,
            )
            (on_missing field_count boxes nodes pool b i (suc k) h ∙ grown_divided field_count boxes b k e))

    there_begins : (k : ℕ) → i < node_count nodes → WithinOrOver leaf_mark (field_of nodes i) → Begins b i k (grows k b i)
    there_begins k h (at_most m) = leafs _ (on_leaf field_count boxes nodes pool b i h k m)
    there_begins zero h (over m) = leafs _ (on_deep field_count boxes nodes pool b i h m)
    there_begins (suc k) h (over m) =
        cuts (field_of nodes i) (value_of nodes i) m (on_cut field_count boxes nodes pool b i h m k refl refl)

    begins : (k : ℕ) → Begins b i k (grows k b i)
    begins k = go (within_or_over (node_count nodes) i)
      where
        go : WithinOrOver (node_count nodes) i → Begins b i k (grows k b i)
        go (at_most h) = fresh_begins k h
        go (over h) = there_begins k h (within_or_over leaf_mark (field_of nodes i))

-- ---- a stop

-- the words of a stop of the tree: it was grown from no more nodes than the stop has
module _ (boxes : List (List (List ℕ))) (nodes pool part kept : List ℕ) (few : node_count nodes ≤ node_count part) where
  -- what was grown, and what is grown from the stop
  abbrev whole : ℕ → List (List ℕ) → ℕ → Tree
  whole k b i = grown_on k field_count boxes nodes pool b i

  abbrev again : ℕ → List (List ℕ) → ℕ → Tree
  again k b i = grown_on k field_count boxes part kept b i

  -- behind the stop both are grown alike
  past_same : (k : ℕ) (b : List (List ℕ)) (i : ℕ) → node_count part ≤ i → again k b i ≡ whole k b i
  past_same k b i h =
      on_missing field_count boxes part kept b i k h ∙
      sym (on_missing field_count boxes nodes pool b i k (omega arith))

  leaf_same :
      (k : ℕ) (b : List (List ℕ)) (i s : ℕ) {l : List ℕ} → Lies part kept (leaf l) i s → again k b i ≡ leaf l
  leaf_same k b i s (a_leaf there f p c u e) =
      on_leaf field_count boxes part kept b i there k (omega arith) ∙ ap leaf e

  -- a cut is the same where its parts are
  cut_same :
      (k : ℕ) (b : List (List ℕ)) (i s : ℕ) (f v : ℕ) {x y u w : Tree} → f < leaf_mark →
      Lies part kept (cut f v u w) i s → (Lies part kept u (i + 1) s → again k (left_part b f v) (i + 1) ≡ x) →
      (Lies part kept w (i + 1 + size u) (s + length (pooled u)) →
      again k (right_part b f v) (i + 1 + size x) ≡ y) →
      again (suc k) b i ≡ cut f v x y
  cut_same k b i s f v {x} {y} field (a_cut there ef ev ec left right) p q =
      on_cut field_count boxes part kept b i there (omega arith) k ef ev ∙ rw (p left) (ap (cut f v x) (q right))

  -- the right part of a cut is the same, from wherever what is grown of its left part ends
  right_same :
      (k : ℕ) (d : List (List ℕ)) (x : Tree) (i s : ℕ) →
      ((j z : ℕ) → Lies part kept (up_to (node_count part) (whole k d j) j) j z → again k d j ≡ whole k d j) →
      Lies part kept (up_to (node_count part) (whole k d (i + size x)) (i + size x))
      (i + size (up_to (node_count part) x i)) s →
      again k d (i + size x) ≡ whole k d (i + size x)
  right_same k d x i s r lies = go (within_or_over (node_count part) (i + size x))
    where
      go : WithinOrOver (node_count part) (i + size x) → again k d (i + size x) ≡ whole k d (i + size x)
      go (at_most h) = past_same k d (i + size x) h
      go (over h) =
          let all = up_to_whole (node_count part) x i (omega arith) in
          r (i + size x) s
          (subst
          (λ (t : Tree).
          Lies part kept (up_to (node_count part) (whole k d (i + size x)) (i + size x)) (i + size t) s)
          all lies)

  -- what is grown from the words of a stop is what was stopped
  pub on_stop :
      (k : ℕ) (b : List (List ℕ)) (i s : ℕ) → Lies part kept (up_to (node_count part) (whole k b i) i) i s →
      again k b i ≡ whole k b i
  on_stop zero b i s lies = go (within_or_over (node_count part) i) (begins boxes nodes pool b i zero)
    where
      go :
          WithinOrOver (node_count part) i → Begins boxes nodes pool b i zero (whole zero b i) →
          again zero b i ≡ whole zero b i
      go (at_most h) w = past_same zero b i h
      go (over h) (leafs l e) =
          leaf_same zero b i s
          (subst (λ (t : Tree). Lies part kept t i s)
          (ap (λ (t : Tree). up_to (node_count part) t i) e ∙ up_to_leaf (node_count part) l i h) lies) ∙
          sym e
  on_stop (suc k) b i s lies =
      go (within_or_over (node_count part) i) (begins boxes nodes pool b i (suc k)) (λ d j z l. on_stop k d j z l)
    where
      go :
          WithinOrOver (node_count part) i → Begins boxes nodes pool b i (suc k) (whole (suc k) b i) →
          ((d : List (List ℕ)) (j z : ℕ) → Lies part kept (up_to (node_count part) (whole k d j) j) j z →
          again k d j ≡ whole k d j) →
          again (suc k) b i ≡ whole (suc k) b i
      go (at_most h) w r = past_same (suc k) b i h
      go (over h) (leafs l e) r =
          leaf_same (suc k) b i s
          (subst (λ (t : Tree). Lies part kept t i s)
          (ap (λ (t : Tree). up_to (node_count part) t i) e ∙ up_to_leaf (node_count part) l i h) lies) ∙
          sym e
      go (over h) (cuts f v u e) r =
          cut_same k b i s f v u
          (subst (λ (t : Tree). Lies part kept t i s)
          (ap (λ (t : Tree). up_to (node_count part) t i) e ∙ up_to_cut (node_count part) f v _ _ i h) lies)
          (r (left_part b f v) (i + 1) s)
          (right_same k (right_part b f v) (whole k (left_part b f v) (i + 1)) (i + 1) _ (r (right_part b f v))) ∙
          sym e
