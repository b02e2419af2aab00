-- A node, *spelt*: its tests one by one, and that they say exactly what `SpeltNode` does; then the sum of the counts
-- goes on within the pool.
use Prim.Native.Nat.{ℕ, ◌+◌, ◌≤◌, ◌<◌}
use native.Mathlib.Omega.{arith}
use mathlib.Core.Bool.{true, false}
use mathlib.Core.Path.{◌≡◌, sym, ◌∙◌}
use mathlib.Core.Logic.{◌↔◌}
use mathlib.Core.List.{List}
use lib.ListN.{length}
use lib.Dec.{ltb}
use borrow.Author.Tests.{ltb-true, leb-true, lt-ltb, le-ltb, le-leb, lt-leb}
use Rattle.facts.proofs.Cases.{WithinOrOver, at_most, over, within_or_over}
use Rattle.refusals.specs.declared.Refusal.TheVariants.{NodeWrong, LeafWrong}
use Rattle.refusals.specs.Verdict.{Fine, Refused}
use Rattle.refusals.specs.Order.{refuse_unless}
use Rattle.refusals.proofs.Order.{holds_fine, fails_refused, fine_iff_holds, then_fine, then_refused, then_fine_iff}
use Rattle.trees.specs.Words.{leaf_mark, node_count, field_of, child_of}
use Rattle.trees.specs.Spelt.{leaf_count, counts_below, leaf_spelt, node_verdict, SpeltLeaf}
use Rattle.trees.proofs.LeafSpelling.{counts_step, cut_counts_none, leaf_counts, leaf_spelt_iff}

module _ (n : ℕ) (nodes pool : List ℕ) (i : ℕ) where
  -- a first word over the leaf's mark is wrong
  pub first_wrong : leaf_mark < field_of nodes i → Refused (NodeWrong i) ≡ node_verdict n nodes pool i
  unfolding node_verdict
  first_wrong l = sym (then_refused _ (fails_refused _ (lt-leb (field_of nodes i) leaf_mark l)))

  -- the right child of a cut decides
  cut_decides :
      field_of nodes i < leaf_mark →
      node_verdict n nodes pool i ≡ refuse_unless (ltb (child_of nodes i) (node_count nodes)) (NodeWrong i)
  unfolding node_verdict
  cut_decides l =
      then_fine _ (holds_fine _ (le-leb (field_of nodes i) leaf_mark (omega arith))) ∙
      rw (lt-ltb (field_of nodes i) leaf_mark l)

  -- at the mark the tests of a leaf decide
  leaf_decides :
      field_of nodes i ≡ leaf_mark →
      node_verdict n nodes pool i ≡ refuse_unless (leaf_spelt n nodes pool i) (LeafWrong i)
  unfolding node_verdict
  leaf_decides e =
      then_fine _ (holds_fine _ (le-leb (field_of nodes i) leaf_mark (omega arith))) ∙
      rw (le-ltb (field_of nodes i) leaf_mark (omega arith))

  -- a cut whose right child is a node is fine
  pub child_fine : field_of nodes i < leaf_mark → child_of nodes i < node_count nodes → Fine ≡ node_verdict n nodes pool i
  child_fine l u = sym (cut_decides l ∙ holds_fine _ (lt-ltb (child_of nodes i) (node_count nodes) u))

  -- a cut whose right child is none is wrong
  pub child_wrong :
      field_of nodes i < leaf_mark → node_count nodes ≤ child_of nodes i →
      Refused (NodeWrong i) ≡ node_verdict n nodes pool i
  child_wrong l u = sym (cut_decides l ∙ fails_refused _ (le-ltb (child_of nodes i) (node_count nodes) u))

  -- a leaf that is spelt is fine
  pub leaf_fine : field_of nodes i ≡ leaf_mark → leaf_spelt n nodes pool i ≡ true → Fine ≡ node_verdict n nodes pool i
  leaf_fine e t = sym (leaf_decides e ∙ holds_fine _ t)

  -- a leaf that is not spelt is wrong
  pub leaf_wrong :
      field_of nodes i ≡ leaf_mark → leaf_spelt n nodes pool i ≡ false → Refused (LeafWrong i) ≡ node_verdict n nodes pool i
  leaf_wrong e t = sym (leaf_decides e ∙ fails_refused _ t)

  -- a node that is spelt: its first word is at most the mark, a cut's child is a node, and a leaf is spelt
  pub record SpeltNode : Type 0 where
    pub first : field_of nodes i ≤ leaf_mark
    pub child : field_of nodes i < leaf_mark → child_of nodes i < node_count nodes
    pub leaf : leaf_mark ≤ field_of nodes i → SpeltLeaf n nodes pool i

  -- the first word of a node that is fine is at most the mark
  first_fine : node_verdict n nodes pool i ≡ Fine → field_of nodes i ≤ leaf_mark
  unfolding node_verdict
  first_fine e = leb-true (field_of nodes i) leaf_mark ((fine_iff_holds _ _).0 ((then_fine_iff _ _).0 e).0)

  -- a node that is fine is spelt
  node_of_fine : node_verdict n nodes pool i ≡ Fine → SpeltNode
  node_of_fine e =
      let low = first_fine e in
      record {
        first = low;
        child = λ l. ltb-true (child_of nodes i) (node_count nodes) ((fine_iff_holds _ _).0 (sym (cut_decides l) ∙ e));
        leaf =
            λ l. (leaf_spelt_iff n nodes pool i).0 ((fine_iff_holds _ _).0 (sym (leaf_decides (omega arith)) ∙ e));
      }

  -- a node that is spelt is fine
  fine_of_node : SpeltNode → node_verdict n nodes pool i ≡ Fine
  fine_of_node s = go (within_or_over leaf_mark (field_of nodes i))
    where
      go : WithinOrOver leaf_mark (field_of nodes i) → node_verdict n nodes pool i ≡ Fine
      go (at_most l) =
          sym (leaf_fine (omega (arith, s.first)) ((leaf_spelt_iff n nodes pool i).1 (s.leaf l)))
      go (over l) = sym (child_fine l (s.child l))

  -- a node is fine exactly where it is spelt
  pub node_fine_iff : (node_verdict n nodes pool i ≡ Fine) ↔ SpeltNode
  node_fine_iff = (node_of_fine, fine_of_node)

  -- the counts up to a node that is fine stay within the pool
  pub counts_within :
      node_verdict n nodes pool i ≡ Fine → counts_below nodes i ≤ length pool →
      counts_below nodes i + leaf_count nodes i ≤ length pool
  counts_within e b = go (within_or_over leaf_mark (field_of nodes i))
    where
      go : WithinOrOver leaf_mark (field_of nodes i) → counts_below nodes i + leaf_count nodes i ≤ length pool
      go (at_most l) =
          let s = (node_fine_iff.0 e).leaf l in
          omega (arith, s.start, s.within, leaf_counts nodes i l)
      go (over l) = omega (arith, cut_counts_none nodes i l)

  -- with the count of a node that is fine the sum is that of one node more, and within the pool
  pub sum_goes_on :
      {sum k : ℕ} → node_verdict n nodes pool i ≡ Fine → sum ≡ counts_below nodes i → sum ≤ length pool →
      k ≡ leaf_count nodes i → (sum + k ≡ counts_below nodes (i + 1)) × (sum + k ≤ length pool)
  sum_goes_on e s b q =
      (rw (s, q) (sym (counts_step nodes i)), rw (s, q) (counts_within e (rw s at b)))
