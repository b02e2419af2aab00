-- Parts that are begun, and parts that are not: a cut's right child is the first number after its left part, but so far
-- 0 where its right part is not begun.
use Rattle.tree_check.specs.Said.{Complete, Good}
use Rattle.std.specs.Prelude.{Err}
use Prim.Native.Nat.{ℕ, ◌≤◌, ◌<◌}
use native.Mathlib.Omega.{arith}
use mathlib.Core.Bool.{Bool, true, false}
use mathlib.Core.Path.{◌≡◌, refl, sym, subst, ◌∙◌}
use mathlib.Core.List.{List, ◌∷◌}
use borrow.Author.Tests.{lt-ltb, le-ltb}
use Rattle.facts.proofs.Cases.{WithinOrOver, at_most, over, within_or_over}
use Rattle.refusals.specs.declared.Refusal.TheVariants.{NodeWrong}
use Rattle.trees.specs.Words.{node_count, child_of}
use Rattle.tree_check.specs.Preorder.{no_part, child_at}
use Rattle.tree_check.specs.Leads.{right_box, Divides, Leads, here, to_left, to_right}

-- so far a node that is not there is a part that is not begun
pub none_so_far : {far : Bool} (i : ℕ) → far ≡ true → Good i 0 0 Complete ≡ no_part far i
none_so_far i e = rw e

-- in a whole tree it is refused
pub none_refused : {far : Bool} (i : ℕ) → far ≡ false → Err (NodeWrong i) ≡ no_part far i
none_refused i e = rw e

-- in a whole tree the right child is the first number after the left part
pub child_whole : (far : Bool) (m next : ℕ) → far ≡ false → next ≡ child_at far m next
child_whole far m next e = rw e

-- where a node follows the left part, it is the right child
pub child_there : (far : Bool) {m next : ℕ} → next < m → child_at far m next ≡ next
child_there true {m} {next} l = rw (lt-ltb next m l)
child_there false l = refl

-- so far the right child is 0 where none does
pub child_not_begun : {far : Bool} {m next : ℕ} → far ≡ true → m ≤ next → child_at far m next ≡ 0
child_not_begun {m = m} {next = next} e l = rw (e, le-ltb next m l)

-- a right child that is not 0 is the first number after the left part
pub child_begun : (far : Bool) (m next child : ℕ) → child ≡ child_at far m next → 0 < child → child ≡ next
child_begun true m next child e o = go (within_or_over m next)
  where
    go : WithinOrOver m next → child ≡ next
    go (at_most l) = let z = e ∙ child_not_begun refl l in absurd (omega arith)
    go (over l) = e ∙ child_there true l
child_begun false m next child e o = e

module _ {nodes : List ℕ} where
  -- a way begins at a node that is there
  pub leads_there :
      {b d : List (List ℕ)} {i x : ℕ} {cuts : List ℕ} → Leads nodes b i cuts x d → i < node_count nodes
  leads_there (here a f) = a
  leads_there (to_left d w) = d.there
  leads_there (to_right d o w) = d.there

  -- a way that begins at a right child begins at the first node after the left part
  pub from_child :
      (far : Bool) (i : ℕ) {m x : ℕ} {b d : List (List ℕ)} {cuts : List ℕ} →
      child_of nodes i ≡ child_at far (node_count nodes) m → 0 < child_of nodes i →
      Leads nodes b (child_of nodes i) cuts x d → Leads nodes b m cuts x d
  from_child far i {m} {x} {b} {d} {cuts} q o w =
      subst (λ (j : ℕ). Leads nodes b j cuts x d) (child_begun far (node_count nodes) m (child_of nodes i) q o) w

  -- a way that begins at the first node after the left part is a way from the cut
  pub to_child :
      (far : Bool) {i m x : ℕ} {b d : List (List ℕ)} {cuts : List ℕ} → Divides nodes b i →
      child_of nodes i ≡ child_at far (node_count nodes) m → i < m → Leads nodes (right_box nodes b i) m cuts x d →
      Leads nodes b i (i ∷ cuts) x d
  to_child far {i} {m} {x} {b} {d} {cuts} u q l w =
      let same : child_of nodes i ≡ m = q ∙ child_there far (leads_there w) in
      to_right u (omega arith) (subst (λ (j : ℕ). Leads nodes (right_box nodes b i) j cuts x d) (sym same) w)
