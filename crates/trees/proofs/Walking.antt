-- One step of the walk: its tests one by one, and what each step means.
use Prim.Native.Nat.{ℕ, ◌+◌, ◌≤◌, ◌<◌}
use native.Mathlib.Omega.{arith}
use mathlib.Core.Bool.{Bool, true, false, cond}
use mathlib.Core.Path.{◌≡◌, refl, subst}
use mathlib.Core.List.{List}
use lib.ListN.{get_or}
use lib.Dec.{leb}
use borrow.Author.Tests.{lt-ltb, le-ltb, le-leb, lt-leb, eq-eqb, ne_eqb}
use Rattle.facts.proofs.Cases.{Order, below, same, above, order, WithinOrOver, at_most, over, within_or_over}
use Rattle.trees.specs.declared.walk.Step.{Step}
use Rattle.trees.specs.declared.walk.Step.TheVariants.{Wrong, Leaf, Next}
use Rattle.trees.specs.Words.{leaf_mark, node_count, field_of, value_of, child_of}
use Rattle.trees.specs.Walk.{side_of, step_of}

module _ (nodes h : List ℕ) (i : ℕ) where
  -- ---- a step, test by test

  -- a header whose field is at most the value goes left
  pub goes_left : {f v : ℕ} → f ≡ field_of nodes i → v ≡ value_of nodes i → get_or h f 0 ≤ v → i + 1 ≡ side_of nodes h i
  unfolding side_of
  goes_left e q l = rw (le-leb (get_or h (field_of nodes i) 0) (value_of nodes i) (rw (e, q) at l))

  -- a header whose field is over the value goes to the right child
  pub goes_right :
      {f v w : ℕ} → f ≡ field_of nodes i → v ≡ value_of nodes i → v < get_or h f 0 → w ≡ child_of nodes i →
      w ≡ side_of nodes h i
  unfolding side_of
  goes_right e q l t = rw (lt-leb (get_or h (field_of nodes i) 0) (value_of nodes i) (rw (e, q) at l)) t

  -- a node that is not wholly there is wrong
  pub step_missing : node_count nodes ≤ i → Wrong ≡ step_of nodes h i
  unfolding step_of
  step_missing l = rw (le-ltb i (node_count nodes) l)

  module _ (there : i < node_count nodes) where
    -- a node with the mark is a leaf
    pub step_leaf : field_of nodes i ≡ leaf_mark → Leaf ≡ step_of nodes h i
    unfolding step_of
    step_leaf e = rw (lt-ltb i (node_count nodes) there, eq-eqb (field_of nodes i) leaf_mark e)

    -- a first word over the mark is wrong
    pub step_over : leaf_mark < field_of nodes i → Wrong ≡ step_of nodes h i
    unfolding step_of
    step_over l =
        let ne : field_of nodes i ≡ leaf_mark → ⊥ = (λ e. omega arith) in
        rw (lt-ltb i (node_count nodes) there, ne_eqb (field_of nodes i) leaf_mark ne, lt-ltb leaf_mark (field_of nodes i) l)

    module _ (cut : field_of nodes i < leaf_mark) where
      -- a cut does not have the mark
      not_mark : field_of nodes i ≡ leaf_mark → ⊥
      not_mark e = omega arith

      -- a right child not above the cut is wrong
      pub step_back : child_of nodes i ≤ i → Wrong ≡ step_of nodes h i
      unfolding step_of
      step_back l =
          rw (
            lt-ltb i (node_count nodes) there,
            ne_eqb (field_of nodes i) leaf_mark not_mark,
            le-ltb leaf_mark (field_of nodes i) (omega arith),
            le-leb (child_of nodes i) i l,
          )

      -- from a cut whose right child is above it the walk goes on to the header's side
      pub step_on : i < child_of nodes i → {j : ℕ} → j ≡ side_of nodes h i → Next j ≡ step_of nodes h i
      unfolding step_of
      step_on l e =
          rw (
            lt-ltb i (node_count nodes) there,
            ne_eqb (field_of nodes i) leaf_mark not_mark,
            le-ltb leaf_mark (field_of nodes i) (omega arith),
            lt-leb (child_of nodes i) i l,
            e,
          )

  -- ---- what a step says

  -- a cut that the walk goes on from: it is there, its child is above it, and the next node is on the header's side
  pub record GoesOn (j : ℕ) : Type 0 where
    pub there : i < node_count nodes
    pub cut : field_of nodes i < leaf_mark
    pub above : i < child_of nodes i
    pub side : j ≡ side_of nodes h i

  -- what is known of node i by its step
  data StepMeans : Step → Type 0 where
    wrong : StepMeans Wrong
    leaf : i < node_count nodes → field_of nodes i ≡ leaf_mark → StepMeans Leaf
    next : {j : ℕ} → GoesOn j → StepMeans (Next j)

  -- the right child of a cut that is there tells whether the walk goes on
  cut_means : i < node_count nodes → field_of nodes i < leaf_mark → StepMeans (step_of nodes h i)
  cut_means l u = go (within_or_over (child_of nodes i) i)
    where
      go : WithinOrOver (child_of nodes i) i → StepMeans (step_of nodes h i)
      go (at_most m) = subst StepMeans (step_back l u m) StepMeans.wrong
      go (over m) =
          subst StepMeans (step_on l u m refl) (StepMeans.next (record { there = l; cut = u; above = m; side = refl }))

  -- the first word of a node that is there tells a cut, a leaf and what is wrong
  there_means : i < node_count nodes → StepMeans (step_of nodes h i)
  there_means l = go (order (field_of nodes i) leaf_mark)
    where
      go : Order (field_of nodes i) leaf_mark → StepMeans (step_of nodes h i)
      go (below m) = cut_means l m
      go (same m) = subst StepMeans (step_leaf l m) (StepMeans.leaf l m)
      go (above m) = subst StepMeans (step_over l m) StepMeans.wrong

  -- each step tells what its node is
  means : StepMeans (step_of nodes h i)
  means = go (within_or_over (node_count nodes) i)
    where
      go : WithinOrOver (node_count nodes) i → StepMeans (step_of nodes h i)
      go (at_most l) = subst StepMeans (step_missing l) StepMeans.wrong
      go (over l) = there_means l

  -- a leaf is there, and has the mark
  pub leaf_means : step_of nodes h i ≡ Leaf → (i < node_count nodes) × (field_of nodes i ≡ leaf_mark)
  leaf_means e = go (subst StepMeans e means)
    where
      go : StepMeans Leaf → (i < node_count nodes) × (field_of nodes i ≡ leaf_mark)
      go (StepMeans.leaf l m) = (l, m)

  -- where the walk goes on to node j there is a cut that it goes on from
  pub next_means : {j : ℕ} → step_of nodes h i ≡ Next j → GoesOn j
  next_means {j} e = go (subst StepMeans e means)
    where
      go : StepMeans (Next j) → GoesOn j
      go (StepMeans.next g) = g

  -- where the right child is above the cut, so is the header's side
  pub side_above : i < child_of nodes i → i < side_of nodes h i
  unfolding side_of
  side_above l = go (leb (get_or h (field_of nodes i) 0) (value_of nodes i))
    where
      go : (t : Bool) → i < cond t (i + 1) (child_of nodes i)
      go true = omega arith
      go false = l

  -- what bounds the next node and the right child bounds the header's side
  pub side_at_most : (m : ℕ) → i + 1 ≤ m → child_of nodes i ≤ m → side_of nodes h i ≤ m
  unfolding side_of
  side_at_most m l u = go (leb (get_or h (field_of nodes i) 0) (value_of nodes i))
    where
      go : (t : Bool) → cond t (i + 1) (child_of nodes i) ≤ m
      go true = l
      go false = u

module _ {nodes h : List ℕ} {i j : ℕ} (g : GoesOn nodes h i j) where
  -- the walk goes on to a higher number
  pub goes_on_rises : i < j
  goes_on_rises = rw g.side (side_above nodes h i g.above)

  -- what bounds the number of nodes and the right child bounds the node that the walk goes on to
  pub goes_on_below : (m : ℕ) → node_count nodes ≤ m → child_of nodes i ≤ m → j ≤ m
  goes_on_below m l u = rw g.side (side_at_most nodes h i m (omega (arith, g.there)) u)
