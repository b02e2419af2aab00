-- What the build's promise tells of its answers: a tree is the list's own, it may serve, and it is one whatever the
-- room; and when it is refused.
use Rattle.std.specs.Prelude.{Err}
use Rattle.builder.specs.Said.{BuiltTree}
use Prim.Native.Nat.{ℕ, ◌*◌, ◌≤◌, min}
use native.Mathlib.Nat.{min-le_left, min-le_right, le-min}
use native.Mathlib.Omega.{arith}
use mathlib.Core.Path.{◌≡◌, refl, sym, ◌∙◌}
use mathlib.Core.Logic.{◌↔◌}
use mathlib.Core.List.{List, [], ◌∷◌}
use lib.ListN.{length, take}
use Rattle.facts.specs.Lists.{written}
use Rattle.facts.proofs.Setting.{written_front}
use Rattle.refusals.specs.declared.Refusal.{Refusal}
use Rattle.refusals.specs.Verdict as verdict
use Rattle.refusals.proofs.Promises.{said_by, fine_by, refused_by, left_written, writes_fine, writes_refused}
use Rattle.rules.specs.Good.{list_verdict}
use Rattle.trees.specs.Words.{node_words, most_nodes, most_pool}
use Rattle.tree_check.specs.Serves.{Serves}
use Rattle.built.specs.Layout.{size}
use Rattle.built.specs.BuiltTree.{built_tree, built_nodes, built_pool, build_verdict}
use Rattle.built.specs.FirstUnfit.{FirstUnfit}
use Rattle.built.proofs.Laying.{length_laid}
use Rattle.built.proofs.BuiltAccepted.{build_fine_iff, built_serves}
use Rattle.built.proofs.FirstUnfit.{build_refused_iff}
use Rattle.builder.specs.Build.{built_values, TreeBuilt}

module _ (rs : List ℕ) {nodes pool : List ℕ} {n p : ℕ} {nodes' pool' : List ℕ}
    (w : TreeBuilt rs nodes pool (BuiltTree n p) nodes' pool') where
  told : (build_verdict rs (length nodes) (length pool) ≡ verdict.Fine) × (n ∷ p ∷ [] ≡ built_values rs)
  told = fine_by (said_by w.0) refl

  -- the values of a tree count the nodes and the entries of the list's own
  pub tree_counts : (n ≡ size (built_tree rs)) × (p ≡ length (built_pool rs))
  tree_counts = ((let z = told.1 in cc), (let z = told.1 in cc))

  -- its words stand in front of both outputs, and the rest is as found
  pub tree_words : (nodes' ≡ written (built_nodes rs) nodes) × (pool' ≡ written (built_pool rs) pool)
  tree_words = (left_written w.0 told.0, left_written w.1 told.0)

  -- in front of both outputs stand the words of the list's own tree
  pub tree_front : (take (n * node_words) nodes' ≡ built_nodes rs) × (take p pool' ≡ built_pool rs)
  tree_front =
      let long : length (built_nodes rs) ≡ n * node_words = omega (
        arith,
        length_laid (built_tree rs) 0 0,
        tree_counts.0,
      ) in (
        rw tree_words.0 (written_front (built_nodes rs) nodes _ long),
        rw tree_words.1 (written_front (built_pool rs) pool p (sym tree_counts.1)),
      )

  -- what stands in front may serve the list
  pub tree_serves : Serves rs (take (n * node_words) nodes') (take p pool')
  tree_serves = rw (tree_front.0, tree_front.1) (built_serves rs (length nodes) (length pool) told.0)

-- a list whose tree is built twice, whatever the rooms, gives the same counts and the same words
pub one_tree :
    (rs : List ℕ) {ns es us vs : List ℕ} {n p m q : ℕ} {x y z w : List ℕ} → TreeBuilt rs ns es (BuiltTree n p) x y →
    TreeBuilt rs us vs (BuiltTree m q) z w →
    (n ≡ m) × (p ≡ q) × (take (n * node_words) x ≡ take (m * node_words) z) × (take p y ≡ take q w)
one_tree rs a b = (
  (tree_counts rs a).0 ∙ sym (tree_counts rs b).0,
  (tree_counts rs a).1 ∙ sym (tree_counts rs b).1,
  (tree_front rs a).0 ∙ sym (tree_front rs b).0,
  (tree_front rs a).1 ∙ sym (tree_front rs b).1,
)

module _ (rs nodes pool : List ℕ) where
  -- the build answers a tree
  abbrev pub Completes : Type 0
  Completes = (n : ℕ) × (p : ℕ) × (x : List ℕ) × (y : List ℕ) × TreeBuilt rs nodes pool (BuiltTree n p) x y

  -- it does exactly where the list is good, and its tree's words fit in what is lent and in the limits of a tree
  pub completes_iff :
      Completes ↔
      ((list_verdict rs ≡ verdict.Fine) × (length (built_nodes rs) ≤ length nodes) ×
      (length (built_nodes rs) ≤ most_nodes * node_words) × (length (built_pool rs) ≤ length pool) ×
      (length (built_pool rs) ≤ most_pool))
  completes_iff = (to, of)
    where
      size_is : length (built_nodes rs) ≡ size (built_tree rs) * node_words
      size_is = length_laid (built_tree rs) 0 0

      to :
          Completes →
          (list_verdict rs ≡ verdict.Fine) × (length (built_nodes rs) ≤ length nodes) ×
          (length (built_nodes rs) ≤ most_nodes * node_words) × (length (built_pool rs) ≤ length pool) ×
          (length (built_pool rs) ≤ most_pool)
      to c =
          let t = (build_fine_iff rs (length nodes) (length pool)).0 (told rs c.4).0 in (
            t.0,
            omega (arith, size_is, t.1, min-le_left (length nodes) (most_nodes * node_words)),
            omega (arith, size_is, t.1, min-le_right (length nodes) (most_nodes * node_words)),
            omega (arith, t.2, min-le_left (length pool) most_pool),
            omega (arith, t.2, min-le_right (length pool) most_pool),
          )

      of :
          (list_verdict rs ≡ verdict.Fine) × (length (built_nodes rs) ≤ length nodes) ×
          (length (built_nodes rs) ≤ most_nodes * node_words) × (length (built_pool rs) ≤ length pool) ×
          (length (built_pool rs) ≤ most_pool) → Completes
      of h =
          let fine = (build_fine_iff rs (length nodes) (length pool)).1
          (h.0, le-min (omega (arith, size_is, h.1)) (omega (arith, size_is, h.2)), le-min h.3 h.4) in
          (_, _, _, _, (writes_fine fine refl refl, writes_fine fine refl refl))

  -- of a good list it says 4 exactly at the first node that does not fit, with what is wanted there
  pub short_iff :
      (why : Refusal) → list_verdict rs ≡ verdict.Fine →
      TreeBuilt rs nodes pool (Err why) nodes pool ↔
      FirstUnfit (built_nodes rs) (min (length nodes) (most_nodes * node_words)) (min (length pool) most_pool) why
  short_iff why good = (
    λ w. (build_refused_iff rs (length nodes) (length pool) why good).0 (refused_by (said_by w.0) refl),
    λ u.
        let e = (build_refused_iff rs (length nodes) (length pool) why good).1 u in
        (writes_refused {why = why} e refl refl, writes_refused {why = why} e refl refl),
  )
