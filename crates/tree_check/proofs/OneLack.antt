-- The lowest leaf that lacks a rule: in a built tree there is one, and one lowest rule that it lacks.
use Rattle.tree_check.specs.declared.preorder.Lack.{Lack}
use Rattle.tree_check.specs.Said.{Complete, Lacks}
use Rattle.std.specs.Prelude.{Option, Some}
use Prim.Native.Nat.{ℕ, ◌<◌}
use native.Mathlib.Omega.{arith}
use mathlib.Core.Bool.{Bool}
use mathlib.Core.Path.{◌≡◌, refl}
use mathlib.Core.List.{List}
use Rattle.facts.proofs.Bools.{clash}
use Rattle.facts.proofs.Cases.{Order, below, same, above, order}
use Rattle.fields.specs.Boxes.{root_box}
use Rattle.tree_check.specs.Leads.{Leads, here, to_left, to_right}
use Rattle.tree_check.specs.Lacks.{LacksFirst}
use Rattle.tree_check.proofs.Built.{Built, of_none, of_leaf, of_cut}
use Rattle.tree_check.proofs.Begun.{leads_there, from_child}
use Rattle.tree_check.proofs.Bounds.{bounds}
use Rattle.tree_check.proofs.Lacks.{complete_iff, lack_means}
use Rattle.tree_check.proofs.FirstLack.{first_lack, complete_at}

-- in a built part a leaf has one box
pub leaf_box_unique :
    {far : Bool} {rs nodes pool : List ℕ} {k : ℕ} {b d d' : List (List ℕ)} {i e c l x x' : ℕ} {y : Option Lack}
    {cuts cuts' : List ℕ} → Built far rs nodes pool k b i e c l y → Leads nodes b i cuts x d →
    Leads nodes b i cuts' x' d' → x ≡ x' → d ≡ d'
leaf_box_unique (of_none z a) w v q = absurd (omega (arith, leads_there w))
leaf_box_unique (of_leaf a f r) (here u g) (here u' g') q = refl
leaf_box_unique (of_leaf a f r) (here u g) (to_left d v) q = absurd (omega (arith, d.field))
leaf_box_unique (of_leaf a f r) (here u g) (to_right d o v) q = absurd (omega (arith, d.field))
leaf_box_unique (of_leaf a f r) (to_left d w) v q = absurd (omega (arith, d.field))
leaf_box_unique (of_leaf a f r) (to_right d o w) v q = absurd (omega (arith, d.field))
leaf_box_unique (of_cut d s n r) (here u g) v q = absurd (omega (arith, d.field))
leaf_box_unique (of_cut d s n r) (to_left u w) (here u' g) q = absurd (omega (arith, d.field))
leaf_box_unique (of_cut d s n r) (to_left u w) (to_left u' v) q = leaf_box_unique s w v q
leaf_box_unique {far = far} (of_cut d s n r) (to_left u w) (to_right u' o v) q =
    absurd (omega (arith, (bounds s w).below, (bounds r (from_child far _ n o v)).from))
leaf_box_unique (of_cut d s n r) (to_right u o w) (here u' g) q = absurd (omega (arith, d.field))
leaf_box_unique {far = far} (of_cut d s n r) (to_right u o w) (to_left u' v) q =
    absurd (omega (arith, (bounds s v).below, (bounds r (from_child far _ n o w)).from))
leaf_box_unique {far = far} (of_cut d s n r) (to_right u o w) (to_right u' o' v) q =
    leaf_box_unique r (from_child far _ n o w) (from_child far _ n o' v) q

-- of two such leaves neither is lower
lower_leaf_clash {ℓ} :
    {A : Type ℓ} {rs nodes pool : List ℕ} {i i' r r' : ℕ} → LacksFirst rs nodes pool i r →
    LacksFirst rs nodes pool i' r' → i < i' → A
lower_leaf_clash {i = i} {r = r} f g l =
    clash (g.lower_leaves f.cuts i f.box f.way l r f.rule f.meeting) f.unlisted

-- in a built tree there is one lowest leaf that lacks a rule, and one lowest rule that it lacks
pub lacks_first_unique :
    {far : Bool} {rs nodes pool : List ℕ} {k e c l i i' r r' : ℕ} {y : Option Lack} →
    Built far rs nodes pool k root_box 0 e c l y → LacksFirst rs nodes pool i r → LacksFirst rs nodes pool i' r' →
    (i ≡ i') × (r ≡ r')
lacks_first_unique {i = i} {i' = i'} {r = r} {r' = r'} t f g = leaf (order i i')
  where
    rule : i ≡ i' → Order r r' → r ≡ r'
    rule q (same p) = p
    rule q (below p) =
        let box = leaf_box_unique t f.way g.way q in
        clash (g.lower_rules r p (rw box at f.meeting)) (rw q at f.unlisted)
    rule q (above p) =
        let box = leaf_box_unique t f.way g.way q in
        clash (f.lower_rules r' p (rw (← box) at g.meeting)) (rw (← q) at g.unlisted)

    leaf : Order i i' → (i ≡ i') × (r ≡ r')
    leaf (same q) = (q, rule q (order r r'))
    leaf (below l) = lower_leaf_clash f g l
    leaf (above l) = lower_leaf_clash g f l

module _ {far : Bool} {rs nodes pool : List ℕ} {k e c l i r : ℕ} where
  -- the lack of a built tree is that of the lowest leaf that lacks a rule, and the lowest rule that it lacks
  pub lacks_first : Built far rs nodes pool k root_box 0 e c l (Lacks i r) → LacksFirst rs nodes pool i r
  lacks_first t =
      let f = first_lack t refl in
      let m = (lack_means rs nodes pool f.box i f.lack).1 in
      record {
        box = f.box;
        cuts = f.cuts;
        way = f.way;
        rule = m.rule;
        meeting = m.meeting;
        unlisted = m.unlisted;
        lower_rules = m.lower;
        lower_leaves = λ passed x d w l. (complete_iff rs nodes pool d x).0 (f.lower passed x d w l);
      }

-- where i is the lowest leaf of a built tree that lacks a rule, and r the lowest rule that it lacks, that is its lack
pub lack_is_first :
    {far : Bool} {rs nodes pool : List ℕ} {k e c l i r : ℕ} (y : Option Lack) → Built far rs nodes pool k root_box 0 e c l y →
    LacksFirst rs nodes pool i r → y ≡ Lacks i r
lack_is_first {rs = rs} {nodes = nodes} {pool = pool} {i = i} {r = r} Complete t f =
    let none = (complete_iff rs nodes pool f.box i).0 (complete_at t refl f.way) in
    clash (none r f.rule f.meeting) f.unlisted
lack_is_first (Some p) t f =
    let same = lacks_first_unique t (lacks_first t) f in
    rw (same.0, same.1)
