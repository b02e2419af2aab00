-- *Spelt*: all nodes in turn and then the counts, and that these tests say exactly what `Spelt` does.
use Prim.Native.Nat.{ℕ, ◌+◌, ◌-◌, ◌<◌}
use native.Mathlib.Omega.{arith}
use mathlib.Core.Path.{◌≡◌, sym, ◌∙◌}
use mathlib.Core.Logic.{◌↔◌}
use mathlib.Core.List.{List}
use lib.ListN.{length, take, drop}
use lib.Dec.{eqb}
use borrow.Author.Tests.{eqb-true, eq-eqb}
use Rattle.refusals.specs.declared.Refusal.{Refusal}
use Rattle.refusals.specs.declared.Refusal.TheVariants.{LeafWrong}
use Rattle.refusals.specs.Verdict.{Fine, Refused}
use Rattle.refusals.specs.Order.{refuse_unless, in_turn}
use Rattle.refusals.proofs.Order.{holds_fine, fine_iff_holds, then_fine, then_refused, then_fine_iff}
use Rattle.refusals.proofs.Turns.{turns_fine_iff}
use Rattle.trees.specs.Words.{node_count, start_of, count_of, entries}
use Rattle.trees.specs.Spelt.{counts_below, node_verdict, spelt_verdict, Spelt}
use Rattle.trees.proofs.NodeSpelling.{SpeltNode, node_fine_iff}

-- the part of the pool that a leaf's words name is its entries
pub part_is_entries :
    (nodes pool : List ℕ) (i s k : ℕ) → s ≡ start_of nodes i → k ≡ count_of nodes i →
    take (s + k - s) (drop s pool) ≡ entries nodes pool i
unfolding entries
part_is_entries nodes pool i s k p q = let e : s + k - s ≡ k = omega arith in rw (e, p, q)

module _ (n : ℕ) (nodes pool : List ℕ) where
  -- where all nodes are fine the sum of the counts decides
  pub counts_decide :
      {sum : ℕ} → in_turn (node_count nodes) 0 (node_verdict n nodes pool) ≡ Fine →
      sum ≡ counts_below nodes (node_count nodes) →
      refuse_unless (eqb sum (length pool)) (LeafWrong (node_count nodes)) ≡ spelt_verdict n nodes pool
  unfolding spelt_verdict
  counts_decide e q = rw q (sym (then_fine _ e))

  -- what the nodes in turn refuse, the tree refuses
  pub nodes_refuse :
      {why : Refusal} → in_turn (node_count nodes) 0 (node_verdict n nodes pool) ≡ Refused why →
      Refused why ≡ spelt_verdict n nodes pool
  unfolding spelt_verdict
  nodes_refuse e = sym (then_refused _ e)

  -- a tree whose words pass is spelt
  spelt_of_fine : spelt_verdict n nodes pool ≡ Fine → Spelt n nodes pool
  unfolding spelt_verdict
  spelt_of_fine e =
      let t = (then_fine_iff _ _).0 e in
      let each : (i : ℕ) → i < node_count nodes → SpeltNode n nodes pool i =
      (λ i l. (node_fine_iff n nodes pool i).0 ((turns_fine_iff _ _).0 t.0 i l)) in
      record {
        first = λ i l. (each i l).first;
        child = λ i l. (each i l).child;
        leaf = λ i l. (each i l).leaf;
        total = eqb-true (counts_below nodes (node_count nodes)) (length pool) ((fine_iff_holds _ _).0 t.1);
      }

  -- the words of a tree that is spelt pass
  fine_of_spelt : Spelt n nodes pool → spelt_verdict n nodes pool ≡ Fine
  unfolding spelt_verdict
  fine_of_spelt s =
      let each : (i : ℕ) → i < node_count nodes → SpeltNode n nodes pool i =
      (λ i l. record { first = s.first i l; child = s.child i l; leaf = s.leaf i l }) in
      then_fine _
      ((turns_fine_iff (node_count nodes) (node_verdict n nodes pool)).1
      (λ i l. (node_fine_iff n nodes pool i).1 (each i l))) ∙
      holds_fine _ (eq-eqb (counts_below nodes (node_count nodes)) (length pool) s.total)

  -- the words of a tree pass exactly where it is spelt
  pub spelt_fine_iff : (spelt_verdict n nodes pool ≡ Fine) ↔ Spelt n nodes pool
  spelt_fine_iff = (spelt_of_fine, fine_of_spelt)
