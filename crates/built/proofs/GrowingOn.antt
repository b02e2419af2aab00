-- The tree that is grown from nodes that stand already: its equations, by what stands at its first node.
use Prim.Native.Nat.{ℕ, zero, suc, ◌+◌, ◌≤◌, ◌<◌}
use native.Mathlib.Omega.{arith}
use mathlib.Core.Path.{◌≡◌}
use mathlib.Core.List.{List, []}
use borrow.Author.Tests.{lt-ltb, le-ltb}
use Rattle.fields.specs.Cuts.{left_part, right_part}
use Rattle.trees.specs.Words.{leaf_mark, node_count, field_of, value_of, entries}
use Rattle.built.specs.Boxes.{meeting}
use Rattle.built.specs.Trees.{leaf, cut, grown}
use Rattle.built.specs.Layout.{size}
use Rattle.built.specs.GrownOn.{standing, grown_on}

module _ (n : ℕ) (boxes : List (List (List ℕ))) (nodes pool : List ℕ) (b : List (List ℕ)) (i : ℕ) where
  -- what does not stand is grown
  pub on_missing : (k : ℕ) → node_count nodes ≤ i → grown_on k n boxes nodes pool b i ≡ grown k n boxes b
  unfolding grown_on standing
  on_missing zero h = rw (le-ltb i (node_count nodes) h)
  on_missing (suc k) h = rw (le-ltb i (node_count nodes) h)

  module _ (there : i < node_count nodes) where
    -- a leaf that stands has its entries
    pub on_leaf :
        (k : ℕ) → leaf_mark ≤ field_of nodes i → grown_on k n boxes nodes pool b i ≡ leaf (entries nodes pool i)
    unfolding grown_on standing
    on_leaf zero h = rw (lt-ltb i (node_count nodes) there, le-ltb (field_of nodes i) leaf_mark h)
    on_leaf (suc k) h = rw (lt-ltb i (node_count nodes) there, le-ltb (field_of nodes i) leaf_mark h)

    module _ (field : field_of nodes i < leaf_mark) where
      -- a cut that stands where none is allowed is grown as a leaf
      pub on_deep : grown_on 0 n boxes nodes pool b i ≡ leaf (meeting n boxes b)
      unfolding grown_on standing
      on_deep = rw (lt-ltb i (node_count nodes) there, lt-ltb (field_of nodes i) leaf_mark field)

      -- another is cut so, its parts being grown from what stands of them
      pub on_cut :
          (k : ℕ) {f v : ℕ} → field_of nodes i ≡ f → value_of nodes i ≡ v →
          let x = grown_on k n boxes nodes pool (left_part b f v) (i + 1) in
          grown_on (suc k) n boxes nodes pool b i ≡
          cut f v x (grown_on k n boxes nodes pool (right_part b f v) (i + 1 + size x))
      unfolding grown_on standing
      on_cut k p q = rw (← p, ← q, lt-ltb i (node_count nodes) there, lt-ltb (field_of nodes i) leaf_mark field)

-- where no node stands, all is grown
pub on_nothing :
    (k n : ℕ) (boxes : List (List (List ℕ))) (pool : List ℕ) (b : List (List ℕ)) (i : ℕ) →
    grown_on k n boxes [] pool b i ≡ grown k n boxes b
on_nothing k n boxes pool b i = on_missing n boxes [] pool b i k (omega arith)
