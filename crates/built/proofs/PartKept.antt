-- The tree that is grown from a part that is taken begins with the part: its first nodes lie in the part's own words,
-- and so do their entries.
use Rattle.tree_check.specs.declared.preorder.Lack.{Lack}
use Rattle.tree_check.specs.Said.{Complete}
use Rattle.std.specs.Prelude.{Option}
use Prim.Native.Nat.{ℕ, suc, ◌+◌, ◌≤◌, ◌<◌}
use native.Mathlib.Omega.{arith}
use mathlib.Core.Bool.{true}
use mathlib.Core.Path.{◌≡◌, refl, sym, ap, ◌∙◌}
use mathlib.Core.List.{List}
use lib.ListN.{length}
use borrow.Author.Tests.{le-ltb}
use Rattle.facts.proofs.Cases.{WithinOrOver, at_most, over, within_or_over}
use Rattle.fields.specs.Words.{field_count}
use Rattle.rules.specs.Words.{rule_count}
use Rattle.trees.specs.Words.{leaf_mark, node_count, field_of, value_of, child_of, entries}
use Rattle.trees.specs.Spelt.{counts_below, Spelt}
use Rattle.tree_check.specs.Preorder.{child_at}
use Rattle.tree_check.specs.Leads.{left_box, right_box, Divides}
use Rattle.tree_check.proofs.Built.{Built, of_none, of_leaf, of_cut, built_forward}
use Rattle.tree_check.proofs.FirstLack.{earlier_iff}
use Rattle.built.specs.Boxes.{boxes_of}
use Rattle.built.specs.Trees.{Tree}
use Rattle.built.specs.Layout.{size, pooled, right_child}
use Rattle.built.specs.GrownOn.{grown_on}
use Rattle.built.specs.Stops.{up_to, child_before}
use Rattle.built.proofs.GrowingOn.{on_leaf}
use Rattle.built.proofs.Lying.{Lies, a_bud, a_leaf, a_cut}
use Rattle.built.proofs.FullTrees.{full_some, on_full}
use Rattle.built.proofs.Stopping.{up_to_end, up_to_leaf, up_to_cut, up_to_whole, up_to_size, up_to_child}
use Rattle.built.proofs.Covering.{covers_up_to}
use Rattle.built.proofs.Counting.{cut_adds_none, counts_pass}
use Rattle.built.proofs.PartCovers.{PartGrows, entries_many, cut_is, built_grows}

module _ (rs nodes pool : List ℕ) where
  abbrev grows : ℕ → List (List ℕ) → ℕ → Tree
  grows k b i = grown_on k field_count (boxes_of rs) nodes pool b i

  -- what is grown of it up to the part's last node
  abbrev kept : ℕ → List (List ℕ) → ℕ → Tree
  kept k b i = up_to (node_count nodes) (grows k b i) i

  -- it lies in the part's words
  abbrev KeptLies : ℕ → List (List ℕ) → ℕ → Type 0
  KeptLies k b i = (s : ℕ) → counts_below nodes i ≡ s → Lies nodes pool (kept k b i) i s

  bud_kept : (k : ℕ) (b : List (List ℕ)) (i : ℕ) → i ≡ node_count nodes → KeptLies k b i
  bud_kept k b i h s q =
      rw (up_to_end (node_count nodes) (grows k b i) i (omega arith)) (a_bud {i = i} h)

  module _ (spelt : Spelt (rule_count rs) nodes pool) where
    leaf_kept :
        (k : ℕ) (b : List (List ℕ)) (i : ℕ) → i < node_count nodes → leaf_mark ≤ field_of nodes i → KeptLies k b i
    leaf_kept k b i a m s q =
        let l = spelt.leaf i a m in
        let n = entries_many nodes pool i l in
        rw (
          on_leaf field_count (boxes_of rs) nodes pool b i a k m,
          up_to_leaf (node_count nodes) (entries nodes pool i) i a,
        )
        (a_leaf {l = entries nodes pool i} {i = i} a (omega (arith, spelt.first i a)) (l.start ∙ q) (sym n)
        (omega (arith, n, l.within, l.start)) refl)

    -- the parts of a cut are kept where its right child is as it should be
    module _ (k : ℕ) (b : List (List ℕ)) (i : ℕ) (d : Divides nodes b i) {m e : ℕ} (forward : m ≤ e)
        (p : PartGrows rs nodes pool k (left_box nodes b i) (i + 1) m)
        (r : PartGrows rs nodes pool k (right_box nodes b i) m e)
        (child : child_of nodes i ≡ child_at true (node_count nodes) m) (left : KeptLies k (left_box nodes b i) (i + 1))
        (right : m < node_count nodes → KeptLies k (right_box nodes b i) m) where
      x : Tree
      x = grows k (left_box nodes b i) (i + 1)

      y : Tree
      y = grows k (right_box nodes b i) (i + 1 + size x)

      -- where what is grown of the left part ends
      middle : ℕ
      middle = i + 1 + size (up_to (node_count nodes) x (i + 1))

      -- it ends where the left part that stands does, if that is not the end of all
      middle_is : (m < node_count nodes → middle ≡ m) × (node_count nodes ≤ m → middle ≡ node_count nodes)
      unfolding x middle
      middle_is = (
        λ h.
            let at = p.ends h in
            let all = up_to_whole (node_count nodes) x (i + 1) (omega arith) in
            ap (λ (t : Tree). i + 1 + size t) all ∙ at,
        λ h. up_to_size (node_count nodes) x (i + 1) (omega (arith, d.there)) (p.goes_on h),
      )

      child_kept : child_of nodes i ≡ right_child (up_to (node_count nodes) y (i + 1 + size x)) middle
      unfolding x y middle child_before
      child_kept =
          child ∙ go (within_or_over (node_count nodes) m) ∙
          up_to_child (node_count nodes) x y (i + 1) (omega (arith, d.there))
          (full_some (on_full k field_count (boxes_of rs) nodes pool (right_box nodes b i) (i + 1 + size x)))
        where
          go :
              WithinOrOver (node_count nodes) m →
              child_at true (node_count nodes) m ≡ child_before (node_count nodes) middle
          go (at_most h) =
              let at = middle_is.1 h in
              rw (le-ltb m (node_count nodes) h, at, le-ltb (node_count nodes) (node_count nodes) (omega arith))
          go (over h) = let at = middle_is.0 h in rw at

      right_kept :
          (s : ℕ) → counts_below nodes middle ≡ s →
          Lies nodes pool (up_to (node_count nodes) y (i + 1 + size x)) middle s
      unfolding x y middle
      right_kept s q = go (within_or_over (node_count nodes) m)
        where
          go :
              WithinOrOver (node_count nodes) m → Lies nodes pool (up_to (node_count nodes) y (i + 1 + size x)) middle s
          go (at_most h) =
              rw (up_to_end (node_count nodes) y (i + 1 + size x) (p.goes_on h)) (a_bud (middle_is.1 h))
          go (over h) =
              let at = p.ends h in
              let all = middle_is.0 h in
              rw (all, at) (right h s (rw all at q))

      cut_kept : KeptLies (suc k) b i
      unfolding x y middle
      cut_kept s q =
          rw (
            cut_is rs nodes pool k b i d,
            up_to_cut (node_count nodes) (field_of nodes i) (value_of nodes i) x y i d.there,
          )
          (a_cut {i = i} d.there refl refl child_kept (left s first)
          (right_kept (s + length (pooled (up_to (node_count nodes) x (i + 1)))) behind))
        where
          first : counts_below nodes (i + 1) ≡ s
          first = cut_adds_none nodes i d.field ∙ q

          behind : counts_below nodes middle ≡ s + length (pooled (up_to (node_count nodes) x (i + 1)))
          behind =
              counts_pass rs nodes pool (covers_up_to (node_count nodes) p.covers (i + 1)) (left s first) first

    -- what is grown from a part that is taken lies in the part's words, as far as these go
    pub built_kept :
        {k : ℕ} {b : List (List ℕ)} {i e c l : ℕ} {z : Option Lack} → Built true rs nodes pool k b i e c l z →
        z ≡ Complete → i ≤ node_count nodes → (s : ℕ) → counts_below nodes i ≡ s →
        Lies nodes pool (up_to (node_count nodes) (grown_on k field_count (boxes_of rs) nodes pool b i) i) i s
    built_kept (of_none {k = k} {b = b} {i = i} q a) f h = bud_kept k b i (omega arith)
    built_kept (of_leaf {k = k} {b = b} {i = i} a m r) f h = leaf_kept k b i a m
    built_kept (of_cut {k = k} {b = b} {i = i} {y₁ = u} {y₂ = w} d p q r) f h =
        let z = (earlier_iff u w).0 f in
        cut_kept k b i d (built_forward r) (built_grows rs nodes pool spelt p z.0)
        (built_grows rs nodes pool spelt r z.1) q (built_kept p z.0 (omega (arith, d.there)))
        (λ n. built_kept r z.1 (omega arith))
