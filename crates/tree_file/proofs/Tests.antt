-- What the tests of a node's numbers say.
use Prim.Native.Nat.{ℕ, ◌+◌, ◌≤◌, ◌<◌}
use mathlib.Core.Bool.{true}
use mathlib.Core.Path.{◌≡◌}
use borrow.Author.Tests.{ltb-true, leb-true, eqb-true}
use Rattle.facts.proofs.Bools.{both}
use Rattle.trees.specs.Words.{leaf_mark}
use Rattle.tree_file.specs.TreeText.{cut_fits, leaf_fits}

-- the numbers of a cut that pass: its number, a field, and a right child among the nodes
pub cut_passes : (m i v f c : ℕ) → cut_fits m i v f c ≡ true → (v ≡ i) × (f < leaf_mark) × (c < m)
unfolding cut_fits
cut_passes m i v f c e =
    let t = both _ _ e in
    let u = both _ _ t.0 in
    (eqb-true v i u.0, ltb-true f leaf_mark u.1, ltb-true c m t.1)

-- the numbers of a leaf that pass: its number, a count that is at most the number of rules and within the pool
pub leaf_passes : (n p i k v c : ℕ) → leaf_fits n p i k v c ≡ true → (v ≡ i) × (c ≤ n) × (k + c ≤ p)
unfolding leaf_fits
leaf_passes n p i k v c e =
    let t = both _ _ e in
    let u = both _ _ t.0 in
    (eqb-true v i u.0, leb-true c n u.1, leb-true (k + c) p t.1)
