-- The first lack of a built part: none exactly where no leaf lacks a rule, else that of its lowest leaf that does.
use Rattle.tree_check.specs.declared.preorder.Lack.{Lack}
use Rattle.tree_check.specs.Said.{Complete, Lacks}
use Rattle.std.specs.Prelude.{Option, Some}
use Prim.Native.Nat.{ℕ, ◌+◌, ◌≤◌, ◌<◌}
use native.Mathlib.Omega.{arith}
use mathlib.Core.Bool.{Bool}
use mathlib.Core.Path.{◌≡◌, refl, sym, subst, ◌∙◌}
use mathlib.Core.Logic.{◌↔◌}
use mathlib.Core.List.{List, [], ◌∷◌}
use Rattle.trees.specs.Words.{leaf_mark, node_count, field_of, child_of, entries}
use Rattle.tree_check.specs.Preorder.{lack_of, child_at, earlier}
use Rattle.tree_check.specs.Leads.{left_box, right_box, Divides, Leads, here, to_left, to_right}
use Rattle.tree_check.proofs.Built.{Built, of_none, of_leaf, of_cut, built_forward}
use Rattle.tree_check.proofs.Begun.{leads_there, from_child, to_child}
use Rattle.tree_check.proofs.Bounds.{bounds}
use Rattle.tree_check.proofs.Lacks.{lacks_not_complete, lack_means}

-- of two lacks the earlier is none exactly where both are
pub earlier_iff : (y z : Option Lack) → (earlier y z ≡ Complete) ↔ ((y ≡ Complete) × (z ≡ Complete))
earlier_iff Complete z = (λ e. (refl, e), λ t. t.1)
earlier_iff (Some lack) z = (λ e. lacks_not_complete e, λ t. t.0)

module _ {far : Bool} {rs nodes pool : List ℕ} where
  -- where a built part has no lack, none of its leaves has
  pub complete_at :
      {k : ℕ} {b d : List (List ℕ)} {i e c l x : ℕ} {y : Option Lack} {cuts : List ℕ} →
      Built far rs nodes pool k b i e c l y → y ≡ Complete → Leads nodes b i cuts x d →
      lack_of rs (entries nodes pool x) d x ≡ Complete
  complete_at (of_none z a) q w = absurd (omega (arith, leads_there w))
  complete_at (of_leaf a f r) q (here u g) = q
  complete_at (of_leaf a f r) q (to_left d w) = absurd (omega (arith, d.field))
  complete_at (of_leaf a f r) q (to_right d o w) = absurd (omega (arith, d.field))
  complete_at (of_cut d s n r) q (here u g) = absurd (omega (arith, d.field))
  complete_at (of_cut {y₁ = y} {y₂ = z} d s n r) q (to_left d' w) = complete_at s ((earlier_iff y z).0 q).0 w
  complete_at (of_cut {y₁ = y} {y₂ = z} d s n r) q (to_right d' o w) =
      complete_at r ((earlier_iff y z).0 q).1 (from_child far _ n o w)

  -- where none of the leaves of a built part has a lack, the part has none
  pub complete_of_each :
      {k : ℕ} {b : List (List ℕ)} {i e c l : ℕ} {y : Option Lack} → Built far rs nodes pool k b i e c l y →
      ((cuts : List ℕ) (x : ℕ) (d : List (List ℕ)) → Leads nodes b i cuts x d →
      lack_of rs (entries nodes pool x) d x ≡ Complete) →
      y ≡ Complete
  complete_of_each (of_none z a) q = refl
  complete_of_each (of_leaf {b = b} {i = i} a f r) q = q [] i b (here a f)
  complete_of_each (of_cut {i = i} {y₁ = y} {y₂ = z} d s n r) q =
      (earlier_iff y z).1 (
        complete_of_each s (λ cuts x e w. q (i ∷ cuts) x e (to_left d w)),
        complete_of_each r (λ cuts x e w. q (i ∷ cuts) x e (to_child far d n (omega (arith, built_forward s)) w)),
      )

-- each leaf below x of the part that begins at node i, its box being b, has no lack
abbrev pub NoneBelow : List ℕ → List ℕ → List ℕ → List (List ℕ) → ℕ → ℕ → Type 0
NoneBelow rs nodes pool b i x =
    (passed : List ℕ) (z : ℕ) (d : List (List ℕ)) → Leads nodes b i passed z d → z < x →
    lack_of rs (entries nodes pool z) d z ≡ Complete

-- leaf x of the part that begins at node i, its box being b, lacks rule r, and each lower leaf of it has no lack
pub record FirstLack (rs nodes pool : List ℕ) (b : List (List ℕ)) (i x r : ℕ) : Type 0 where
  pub box : List (List ℕ)
  pub cuts : List ℕ
  pub way : Leads nodes b i cuts x box
  pub lack : lack_of rs (entries nodes pool x) box x ≡ Lacks x r
  pub lower : NoneBelow rs nodes pool b i x

module _ {rs nodes pool : List ℕ} where
  leaf_first :
      {b : List (List ℕ)} {i x r : ℕ} → i < node_count nodes → leaf_mark ≤ field_of nodes i → i ≡ x →
      lack_of rs (entries nodes pool i) b i ≡ Lacks x r → FirstLack rs nodes pool b i x r
  leaf_first {b} {i} {x} {r} a f e q =
      record {
        box = b;
        cuts = [];
        way = subst (λ (z : ℕ). Leads nodes b i [] z b) e (here a f);
        lack = subst (λ (z : ℕ). lack_of rs (entries nodes pool z) b z ≡ Lacks x r) e q;
        lower = none;
      }
    where
      none : NoneBelow rs nodes pool b i x
      none p z d' (here v g) l = absurd (omega arith)
      none p z d' (to_left d w) l = absurd (omega (arith, d.field))
      none p z d' (to_right d o w) l = absurd (omega (arith, d.field))

  module _ (far : Bool) {k : ℕ} {b : List (List ℕ)} {i m e c₁ l₁ c₂ l₂ x r : ℕ} {y₁ y₂ : Option Lack} (d : Divides nodes b i)
      (s : Built far rs nodes pool k (left_box nodes b i) (i + 1) m c₁ l₁ y₁)
      (n : child_of nodes i ≡ child_at far (node_count nodes) m)
      (t : Built far rs nodes pool k (right_box nodes b i) m e c₂ l₂ y₂) where
    left_first : FirstLack rs nodes pool (left_box nodes b i) (i + 1) x r → FirstLack rs nodes pool b i x r
    left_first a =
        record { box = a.box; cuts = i ∷ a.cuts; way = to_left d a.way; lack = a.lack; lower = none }
      where
        none : NoneBelow rs nodes pool b i x
        none p z d' (here v g) l = absurd (omega (arith, d.field))
        none p z d' (to_left u w) l = a.lower _ z d' w l
        none p z d' (to_right u o w) l =
            absurd (omega (arith, (bounds s a.way).below, (bounds t (from_child far _ n o w)).from))

    right_first :
        y₁ ≡ Complete → FirstLack rs nodes pool (right_box nodes b i) m x r → FirstLack rs nodes pool b i x r
    right_first p a =
        record {
          box = a.box;
          cuts = i ∷ a.cuts;
          way = to_child far d n (omega (arith, built_forward s)) a.way;
          lack = a.lack;
          lower = none;
        }
      where
        none : NoneBelow rs nodes pool b i x
        none p z d' (here v g) l = absurd (omega (arith, d.field))
        none c z d' (to_left u w) l = complete_at s p w
        none c z d' (to_right u o w) l = a.lower _ z d' (from_child far _ n o w) l

  -- where a built part has a lack, it is that of its lowest leaf that lacks a rule
  pub first_lack :
      {far : Bool} {k : ℕ} {b : List (List ℕ)} {i e c l x r : ℕ} {y : Option Lack} → Built far rs nodes pool k b i e c l y →
      y ≡ Lacks x r → FirstLack rs nodes pool b i x r
  first_lack (of_none z a) q = lacks_not_complete (sym q)
  first_lack (of_leaf {b = b} {i = i} a f r) q = leaf_first a f (lack_means rs nodes pool b i q).0 q
  first_lack {far} {x = x} {r = r} (of_cut {b = b} {i = i} {m = m} {y₁ = y₁} {y₂ = y₂} d s n t) q =
      go y₁ refl (λ e. first_lack s e) (λ e. first_lack t e)
    where
      go :
          (y : Option Lack) → y₁ ≡ y → (y₁ ≡ Lacks x r → FirstLack rs nodes pool (left_box nodes b i) (i + 1) x r) →
          (y₂ ≡ Lacks x r → FirstLack rs nodes pool (right_box nodes b i) m x r) → FirstLack rs nodes pool b i x r
      go Complete o u v = right_first far d s n t o (v (rw o at q))
      go (Some p) o u v = left_first far d s n t (u (o ∙ (rw o at q)))
