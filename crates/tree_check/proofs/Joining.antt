-- A cut that is seen: its answer after its left part, its right child's number, and its right part.
use Rattle.tree_check.specs.declared.preorder.Part.{Part}
use Rattle.tree_check.specs.declared.preorder.Lack.{Lack}
use Rattle.tree_check.specs.Said.{Good}
use Rattle.std.specs.Prelude.{Err, Option, Result, Ok}
use Prim.Native.Nat.{ℕ, ◌+◌, ◌-◌, ◌^◌, ◌≤◌, ◌<◌}
use native.Mathlib.Omega.{arith}
use mathlib.Core.Path.{◌≡◌, sym, ap, ◌∙◌}
use mathlib.Core.Bool.{Bool}
use mathlib.Core.List.{List}
use borrow.Author.Tests.{eq-eqb, ne_eqb}
use Rattle.refusals.specs.declared.Refusal.{Refusal}
use Rattle.refusals.specs.declared.Refusal.TheVariants.{NodeWrong}
use Rattle.fields.specs.Cuts.{right_of, left_part, right_part}
use Rattle.fields.proofs.Cuts.{left_divided, right_divided}
use Rattle.trees.specs.Words.{node_count}
use Rattle.tree_check.specs.Preorder.{after_right, child_at, after_left, preorder_of}
use Rattle.tree_check.specs.Steps.{Shallow}
use Rattle.tree_check.proofs.Built.{part_shallow}
use Rattle.tree_check.proofs.Looking.{SeesCut}

-- the part of a box with few cuts allowed is shallow
pub part_is_shallow :
    (far : Bool) (rs nodes pool : List ℕ) (k : ℕ) (b : List (List ℕ)) (i : ℕ) (p : Result Part Refusal) →
    p ≡ preorder_of far k rs nodes pool b i → k < 2 ^ 63 → Shallow p
unfolding Shallow
part_is_shallow far rs nodes pool k b i (Err why) e l = tt
part_is_shallow far rs nodes pool k b i (Ok p) e l =
    omega (arith, part_shallow far k rs nodes pool b i (sym e))

module _
    (far : Bool) (rs nodes pool : List ℕ) (k : ℕ) (b : List (List ℕ)) (i : ℕ) {f v w : ℕ}
    (e : SeesCut far rs nodes pool k b i f v w) {left : List (List ℕ)} (p : Result Part Refusal) (l : left ≡ left_part b f v)
    (a : p ≡ preorder_of far (k - 1) rs nodes pool left (i + 1))
  where
    after_left_lem :
        preorder_of far k rs nodes pool b i ≡
        after_left far (node_count nodes) i w p (λ next. preorder_of far (k - 1) rs nodes pool (right_of b f v) next)
    after_left_lem =
        e.part ∙
        ap
        (λ (x : Result Part Refusal).
        after_left far (node_count nodes) i w x (λ next. preorder_of far (k - 1) rs nodes pool (right_of b f v) next))
        (sym (rw (l ∙ left_divided b f v e.divided) at a))

    -- a left part that is refused is the refusal
    pub left_refused : {why : Refusal} → p ≡ Err why → Err why ≡ preorder_of far k rs nodes pool b i
    left_refused q = sym (after_left_lem ∙ rw q)

    module _ {next c g : ℕ} {y : Option Lack} (q : p ≡ Good next c g y) where
      -- a right child that is not where the right part begins is refused
      pub wrong_child :
          {z : ℕ} → z ≡ child_at far (node_count nodes) next → (w ≡ z → ⊥) →
          Err (NodeWrong i) ≡ preorder_of far k rs nodes pool b i
      wrong_child {z} o n = sym (after_left_lem ∙ rw (q, ← o, ne_eqb w z n))

      -- else both parts are joined
      pub parts_joined :
          {right : List (List ℕ)} {j : Result Part Refusal} {z : ℕ} (s : Result Part Refusal) → z ≡ child_at far (node_count nodes) next → w ≡ z →
          right ≡ right_part b f v → s ≡ preorder_of far (k - 1) rs nodes pool right next → j ≡ after_right c g y s →
          j ≡ preorder_of far k rs nodes pool b i
      parts_joined {z = z} s o n r t h =
          sym
          (after_left_lem ∙ rw (q, ← o, eq-eqb w z n)
          (ap (after_right c g y) (sym (rw (r ∙ right_divided b f v e.divided) at t)) ∙ sym h))

      -- the left part is no deeper than it may be
      pub left_shallow : c ≤ k - 1
      left_shallow = part_shallow far (k - 1) rs nodes pool left (i + 1) (sym a ∙ q)
