-- One node: the tests one by one, and what stands there means.
use Rattle.trees.specs.declared.words.Node.{Node}
use Rattle.trees.specs.Standing.{Cut, Leaf, Missing}
use Rattle.std.specs.Prelude.{Option}
use Prim.Native.Nat.{ℕ, ◌≤◌, ◌<◌}
use mathlib.Core.Path.{◌≡◌, refl, subst}
use mathlib.Core.List.{List}
use borrow.Author.Tests.{le-leb, lt-leb}
use Rattle.facts.proofs.Cases.{WithinOrOver, at_most, over, within_or_over}
use Rattle.trees.specs.Words.{leaf_mark, node_count, field_of, value_of, child_of, start_of, count_of}
use Rattle.trees.specs.Node.{node_at}

module _ (nodes : List ℕ) (i : ℕ) where
  -- past the last node none is there
  pub node_missing : node_count nodes ≤ i → Missing ≡ node_at nodes i
  unfolding node_at
  node_missing l = rw (le-leb (node_count nodes) i l)

  -- a first word that is no field is a leaf's
  pub node_leaf :
      {s k : ℕ} → i < node_count nodes → leaf_mark ≤ field_of nodes i → s ≡ start_of nodes i → k ≡ count_of nodes i →
      Leaf s k ≡ node_at nodes i
  unfolding node_at
  node_leaf l f e q = rw (lt-leb (node_count nodes) i l, le-leb leaf_mark (field_of nodes i) f, e, q)

  -- a first word that is a field is a cut's
  pub node_cut :
      {f v w : ℕ} → i < node_count nodes → field_of nodes i < leaf_mark → f ≡ field_of nodes i → v ≡ value_of nodes i →
      w ≡ child_of nodes i → Cut f v w ≡ node_at nodes i
  unfolding node_at
  node_cut l u e q t = rw (lt-leb (node_count nodes) i l, lt-leb leaf_mark (field_of nodes i) u, e, q, t)

  -- ---- what stands there

  -- a leaf is there, with start s and count k
  pub record IsLeaf (s k : ℕ) : Type 0 where
    pub there : i < node_count nodes
    pub mark : leaf_mark ≤ field_of nodes i
    pub start : s ≡ start_of nodes i
    pub count : k ≡ count_of nodes i

  -- a cut is there, of field f at value v, with right child w
  pub record IsCut (f v w : ℕ) : Type 0 where
    pub there : i < node_count nodes
    pub below_mark : field_of nodes i < leaf_mark
    pub field : f ≡ field_of nodes i
    pub value : v ≡ value_of nodes i
    pub child : w ≡ child_of nodes i

  -- what is known of node i by what stands there
  data NodeMeans : Option Node → Type 0 where
    missing : node_count nodes ≤ i → NodeMeans Missing
    leaf : {s k : ℕ} → IsLeaf s k → NodeMeans (Leaf s k)
    cut : {f v w : ℕ} → IsCut f v w → NodeMeans (Cut f v w)

  -- the words of a node that is there tell a leaf from a cut
  there_means : i < node_count nodes → NodeMeans (node_at nodes i)
  there_means l = go (within_or_over leaf_mark (field_of nodes i))
    where
      go : WithinOrOver leaf_mark (field_of nodes i) → NodeMeans (node_at nodes i)
      go (at_most m) =
          subst NodeMeans (node_leaf l m refl refl)
          (NodeMeans.leaf (record { there = l; mark = m; start = refl; count = refl }))
      go (over m) =
          subst NodeMeans (node_cut l m refl refl refl)
          (NodeMeans.cut (record { there = l; below_mark = m; field = refl; value = refl; child = refl }))

  -- the words tell what stands there
  means : NodeMeans (node_at nodes i)
  means = go (within_or_over (node_count nodes) i)
    where
      go : WithinOrOver (node_count nodes) i → NodeMeans (node_at nodes i)
      go (at_most l) = subst NodeMeans (node_missing l) (NodeMeans.missing l)
      go (over l) = there_means l

  -- where none is there, the number is past the last node
  pub missing_means : node_at nodes i ≡ Missing → node_count nodes ≤ i
  missing_means e = go (subst NodeMeans e means)
    where
      go : NodeMeans Missing → node_count nodes ≤ i
      go (NodeMeans.missing l) = l

  -- a leaf is there, and these are its words
  pub leaf_is : {s k : ℕ} → node_at nodes i ≡ Leaf s k → IsLeaf s k
  leaf_is {s} {k} e = go (subst NodeMeans e means)
    where
      go : NodeMeans (Leaf s k) → IsLeaf s k
      go (NodeMeans.leaf m) = m

  -- a cut is there, and these are its words
  pub cut_is : {f v w : ℕ} → node_at nodes i ≡ Cut f v w → IsCut f v w
  cut_is {f} {v} {w} e = go (subst NodeMeans e means)
    where
      go : NodeMeans (Cut f v w) → IsCut f v w
      go (NodeMeans.cut m) = m
