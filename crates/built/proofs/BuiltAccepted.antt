-- THE LAW of the build: what is built is accepted by the tree check, and so it may serve.
use Prim.Native.Nat.{ℕ, ◌*◌, ◌≤◌, min}
use mathlib.Core.Path.{◌≡◌}
use mathlib.Core.Logic.{◌↔◌}
use mathlib.Core.List.{List}
use lib.ListN.{length}
use Rattle.refusals.specs.Verdict.{Fine}
use Rattle.refusals.proofs.Order.{then_fine_iff}
use Rattle.rules.specs.Good.{list_verdict}
use Rattle.trees.specs.Words.{node_words, most_nodes, most_pool}
use Rattle.tree_check.specs.TreeCheck.{check_verdict}
use Rattle.tree_check.specs.Serves.{Serves}
use Rattle.built.specs.Layout.{size}
use Rattle.built.specs.BuiltTree.{built_tree, built_nodes, built_pool, tree_fits, build_verdict}
use Rattle.built.proofs.Covering.{built_covers}
use Rattle.built.proofs.Accepting.{tree_fits_iff, covers_accepted, covers_serves}

module _ (rs : List ℕ) (a b : ℕ) where
  stages : (build_verdict rs a b ≡ Fine) ↔ ((list_verdict rs ≡ Fine) × (tree_fits (built_tree rs) a b ≡ Fine))
  unfolding build_verdict
  stages = then_fine_iff (list_verdict rs) (tree_fits (built_tree rs) a b)

  -- the build is fine exactly where the list is, and the tree has no more nodes and entries than there is room for,
  -- and than a tree may have
  pub build_fine_iff :
      (build_verdict rs a b ≡ Fine) ↔
      ((list_verdict rs ≡ Fine) × (size (built_tree rs) * node_words ≤ min a (most_nodes * node_words)) ×
      (length (built_pool rs) ≤ min b most_pool))
  build_fine_iff = (
    λ e. let t = stages.0 e in let u = (tree_fits_iff (built_tree rs) a b).0 t.1 in (t.0, u.0, u.1),
    λ h. stages.1 (h.0, (tree_fits_iff (built_tree rs) a b).1 (h.1, h.2)),
  )

  module _ (e : build_verdict rs a b ≡ Fine) where
    -- where the build is fine, the tree check accepts what is built
    pub built_accepted : check_verdict rs (built_nodes rs) (built_pool rs) ≡ Fine
    built_accepted = let t = stages.0 e in covers_accepted rs (built_tree rs) (built_covers rs) a b t.0 t.1

    -- where the build is fine, what is built may serve
    pub built_serves : Serves rs (built_nodes rs) (built_pool rs)
    built_serves = let t = stages.0 e in covers_serves rs (built_tree rs) (built_covers rs) a b t.0 t.1
