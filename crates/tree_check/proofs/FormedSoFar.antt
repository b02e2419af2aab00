-- The preorder check of a part so far accepts exactly the parts that are well formed so far, where the first words of
-- the nodes are in order; and a well-formed tree is well formed so far.
use Rattle.tree_check.specs.declared.preorder.Lack.{Lack}
use Rattle.tree_check.specs.Said.{Complete}
use Rattle.std.specs.Prelude.{Option}
use Prim.Native.Nat.{ℕ, ◌≤◌, ◌<◌}
use native.Mathlib.Omega.{arith}
use mathlib.Core.Bool.{true}
use mathlib.Core.Path.{sym, ◌∙◌}
use mathlib.Core.Logic.{◌↔◌}
use mathlib.Core.List.{List}
use Rattle.trees.specs.Words.{node_count}
use Rattle.tree_check.specs.Whole as whole
use Rattle.tree_check.specs.Whole.{Whole}
use Rattle.tree_check.specs.SoFar.{SoFar, none, leaf, cut}
use Rattle.tree_check.proofs.Parts.{preorder_missing}
use Rattle.tree_check.proofs.Built.{Built, of_none, of_leaf, of_cut, built}
use Rattle.tree_check.proofs.Begun.{child_there}
use Rattle.tree_check.proofs.Formed.{FirstWords, Accepts, leaf_accepts, cut_accepts}

-- a built part so far is well formed so far
pub so_far_of_built :
    {rs nodes pool : List ℕ} {k : ℕ} {b : List (List ℕ)} {i e c l : ℕ} {y : Option Lack} → FirstWords nodes →
    Built true rs nodes pool k b i e c l y → SoFar nodes pool k b i e
so_far_of_built first (of_none q a) = none a
so_far_of_built first (of_leaf {i = i} a f r) = leaf a (omega (arith, first i a)) r
so_far_of_built first (of_cut d p q r) =
    cut d.there d.field d.low d.high (so_far_of_built first p) q (so_far_of_built first r)

none_accepts :
    (rs nodes pool : List ℕ) (k : ℕ) (b : List (List ℕ)) (i : ℕ) → node_count nodes ≤ i →
    Accepts true rs nodes pool k b i i
none_accepts rs nodes pool k b i a =
    record { cuts = 0; longest = 0; lack = Complete; says = preorder_missing true rs nodes pool b i k a }

-- the check of a part so far accepts it where it is well formed so far
pub accepts_of_so_far :
    (rs : List ℕ) {nodes pool : List ℕ} {k : ℕ} {b : List (List ℕ)} {i e : ℕ} → SoFar nodes pool k b i e →
    Accepts true rs nodes pool k b i e
accepts_of_so_far rs (none a) = none_accepts rs _ _ _ _ _ a
accepts_of_so_far rs (leaf a f r) = leaf_accepts true rs _ _ _ _ _ a (omega arith) r
accepts_of_so_far rs (cut a f u v p q r) =
    cut_accepts true rs _ _ _ _ _ _ _ (record { there = a; field = f; low = u; high = v }) (accepts_of_so_far rs p) q
    (accepts_of_so_far rs r)

-- the check of a part so far accepts it exactly where it is well formed so far
pub accepts_iff_so_far :
    (rs nodes pool : List ℕ) (k : ℕ) (b : List (List ℕ)) (i e : ℕ) → FirstWords nodes →
    Accepts true rs nodes pool k b i e ↔ SoFar nodes pool k b i e
accepts_iff_so_far rs nodes pool k b i e first =
    (λ a. so_far_of_built first (built true rs nodes pool a.says), λ s. accepts_of_so_far rs s)

-- ---- whole trees

-- a well-formed part begins at a node that is there
whole_there :
    {nodes pool : List ℕ} {k : ℕ} {b : List (List ℕ)} {i e : ℕ} → Whole nodes pool k b i e → i < node_count nodes
whole_there (whole.leaf a f r) = a
whole_there (whole.cut a f u v p q r) = a

-- a well-formed part is well formed so far
pub so_far_of_whole :
    {nodes pool : List ℕ} {k : ℕ} {b : List (List ℕ)} {i e : ℕ} → Whole nodes pool k b i e → SoFar nodes pool k b i e
so_far_of_whole (whole.leaf a f r) = leaf a f r
so_far_of_whole (whole.cut a f u v p q r) =
    cut a f u v (so_far_of_whole p) (q ∙ sym (child_there true (whole_there r))) (so_far_of_whole r)
