-- A part that is taken: the tree that is grown from it covers the rules.
use Rattle.tree_check.specs.declared.preorder.Lack.{Lack}
use Rattle.tree_check.specs.Said.{Complete}
use Rattle.std.specs.Prelude.{Option}
use Prim.Native.Nat.{ℕ, suc, ◌+◌, ◌≤◌, ◌<◌}
use native.Mathlib.Omega.{arith}
use mathlib.Core.Bool.{true, false}
use mathlib.Core.Path.{◌≡◌, refl, ap, ◌∙◌}
use mathlib.Core.List.{List}
use lib.ListN.{length, drop, length-drop}
use lib.Seq.{length-take-le}
use Rattle.facts.proofs.Cases.{WithinOrOver, at_most, over, within_or_over}
use Rattle.fields.specs.Words.{field_count}
use Rattle.fields.specs.Cuts.{divides}
use Rattle.fields.proofs.Cuts.{divides_iff, left_divided, right_divided}
use Rattle.rules.specs.Words.{rule_count}
use Rattle.trees.specs.Words.{leaf_mark, node_count, field_of, value_of, start_of, count_of, entries}
use Rattle.trees.specs.Spelt.{SpeltLeaf, Spelt}
use Rattle.tree_check.specs.Leads.{left_box, right_box, Divides}
use Rattle.tree_check.proofs.Built.{Built, of_none, of_leaf, of_cut, built_forward}
use Rattle.tree_check.proofs.FirstLack.{earlier_iff}
use Rattle.tree_check.proofs.Lacks.{complete_iff}
use Rattle.built.specs.Boxes.{boxes_of}
use Rattle.built.specs.Trees.{Tree, cut}
use Rattle.built.specs.Layout.{size}
use Rattle.built.specs.GrownOn.{grown_on}
use Rattle.built.proofs.Laying.{size_leaf, size_cut}
use Rattle.built.proofs.GrowingOn.{on_missing, on_leaf, on_cut}
use Rattle.built.proofs.Covering.{ListsRules, Covers, by_leaf, by_cut, grown_covers}

-- the entries of a leaf that is spelt are as many as it says
pub entries_many :
    {n : ℕ} (nodes pool : List ℕ) (i : ℕ) → SpeltLeaf n nodes pool i → length (entries nodes pool i) ≡ count_of nodes i
unfolding entries
entries_many nodes pool i s =
    length-take-le (count_of nodes i) (drop (start_of nodes i) pool)
    (omega (arith, length-drop (start_of nodes i) pool, s.within))

module _ (rs nodes pool : List ℕ) where
  -- the tree that is grown from what stands of box b, from node i on
  abbrev grows : ℕ → List (List ℕ) → ℕ → Tree
  grows k b i = grown_on k field_count (boxes_of rs) nodes pool b i

  -- it covers the rules, and ends where what stands of it does; or behind the last node, where nothing stands behind
  pub record PartGrows (k : ℕ) (b : List (List ℕ)) (i e : ℕ) : Type 0 where
    pub covers : Covers false rs k b (grows k b i)
    pub ends : e < node_count nodes → i + size (grows k b i) ≡ e
    pub goes_on : node_count nodes ≤ e → node_count nodes ≤ i + size (grows k b i)

  -- what does not stand is grown
  missing_covers : (k : ℕ) (b : List (List ℕ)) (i : ℕ) → node_count nodes ≤ i → Covers false rs k b (grows k b i)
  missing_covers k b i h = rw (on_missing field_count (boxes_of rs) nodes pool b i k h) (grown_covers rs k b)

  missing_grows : (k : ℕ) (b : List (List ℕ)) (i : ℕ) → node_count nodes ≤ i → PartGrows k b i i
  missing_grows k b i h =
      record { covers = missing_covers k b i h; ends = λ l. absurd (omega arith); goes_on = λ l. omega arith }

  -- a leaf that stands, and lacks no rule, lists the rules
  leaf_grows :
      (k : ℕ) (b : List (List ℕ)) (i : ℕ) → i < node_count nodes → leaf_mark ≤ field_of nodes i →
      ListsRules rs b (entries nodes pool i) → PartGrows k b i (i + 1)
  leaf_grows k b i there mark w =
      let e = on_leaf field_count (boxes_of rs) nodes pool b i there k mark in
      let one = size_leaf (entries nodes pool i) in
      record { covers = rw e (by_leaf w); ends = λ l. rw e (omega arith); goes_on = λ l. rw e (omega arith) }

  divided : (b : List (List ℕ)) (i : ℕ) → Divides nodes b i → divides b (field_of nodes i) (value_of nodes i) ≡ true
  divided b i d = (divides_iff b (field_of nodes i) (value_of nodes i)).1 (d.low, d.high)

  -- a cut that stands, and divides its box, has the two sides of the box
  pub cut_is :
      (k : ℕ) (b : List (List ℕ)) (i : ℕ) → Divides nodes b i →
      let x = grown_on k field_count (boxes_of rs) nodes pool (left_box nodes b i) (i + 1) in
      grown_on (suc k) field_count (boxes_of rs) nodes pool b i ≡
      cut (field_of nodes i) (value_of nodes i) x
      (grown_on k field_count (boxes_of rs) nodes pool (right_box nodes b i) (i + 1 + size x))
  cut_is k b i d =
      on_cut field_count (boxes_of rs) nodes pool b i d.there d.field k refl refl ∙
      rw (
        left_divided b (field_of nodes i) (value_of nodes i) (divided b i d),
        right_divided b (field_of nodes i) (value_of nodes i) (divided b i d),
      )

  -- the parts of a cut that stands grow into those of the tree
  module _ (k : ℕ) (b : List (List ℕ)) (i : ℕ) (d : Divides nodes b i) {m e : ℕ} (forward : m ≤ e)
      (p : PartGrows k (left_box nodes b i) (i + 1) m) (r : PartGrows k (right_box nodes b i) m e) where
    x : Tree
    x = grows k (left_box nodes b i) (i + 1)

    y : Tree
    y = grows k (right_box nodes b i) (i + 1 + size x)

    is_cut : grows (suc k) b i ≡ cut (field_of nodes i) (value_of nodes i) x y
    unfolding x y
    is_cut = cut_is k b i d

    -- its right part, wherever its left part ends
    right_grows : WithinOrOver (node_count nodes) m → Covers false rs k (right_box nodes b i) y
    unfolding x y
    right_grows (at_most h) = missing_covers k (right_box nodes b i) _ (p.goes_on h)
    right_grows (over h) = let at = p.ends h in rw at r.covers

    cut_grows : PartGrows (suc k) b i e
    unfolding x y
    cut_grows =
        let n = size_cut (field_of nodes i) (value_of nodes i) x y in
        record {
          covers =
              rw is_cut
              (by_cut d.field (divided b i d) p.covers (right_grows (within_or_over (node_count nodes) m)));
          ends =
              λ l.
              let at = p.ends (omega arith) in
              rw is_cut (omega (arith, n, at, r.ends l, same_size at));
          goes_on = λ l. rw is_cut (omega (arith, n, behind (within_or_over (node_count nodes) m) l));
        }
      where
        same_size : i + 1 + size x ≡ m → size y ≡ size (grows k (right_box nodes b i) m)
        same_size at = ap (λ (j : ℕ). size (grows k (right_box nodes b i) j)) at

        behind :
            WithinOrOver (node_count nodes) m → node_count nodes ≤ e → node_count nodes ≤ i + 1 + size x + size y
        behind (at_most h) l = omega (arith, p.goes_on h)
        behind (over h) l = let at = p.ends h in omega (arith, r.goes_on l, same_size at)

  module _ (spelt : Spelt (rule_count rs) nodes pool) where
    -- what the check so far accepts without a lack grows so
    pub built_grows :
        {k : ℕ} {b : List (List ℕ)} {i e c l : ℕ} {z : Option Lack} → Built true rs nodes pool k b i e c l z →
        z ≡ Complete → PartGrows k b i e
    built_grows (of_none {k = k} {b = b} {i = i} q a) f = missing_grows k b i a
    built_grows (of_leaf {k = k} {b = b} {i = i} a m r) f =
        let s = spelt.leaf i a m in
        leaf_grows k b i a m
        (record {
          rising = r;
          few = omega (arith, entries_many nodes pool i s, s.count);
          rules = s.rules;
          none_lacking = (complete_iff rs nodes pool b i).0 f;
        })
    built_grows (of_cut {k = k} {b = b} {i = i} {y₁ = u} {y₂ = w} d p q r) f =
        let z = (earlier_iff u w).0 f in
        cut_grows k b i d (built_forward r) (built_grows p z.0) (built_grows r z.1)
