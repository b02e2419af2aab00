-- *Spelt*: what the words of a tree must be, node by node. Definitions only.
--   is_cut nodes i           the first word of node i is a field
--   leaf_count nodes i       the count of leaf i; 0 for a cut
--   counts_below nodes i     the sum of the counts of the leaves numbered below i
--   leaf_spelt n nodes pool i     leaf i is spelt for n rules: its start, its count, its end, its entries
--   node_verdict n nodes pool i   6 at node i for its first word or right child, 7 for the rest
--   spelt_verdict n nodes pool    the nodes in turn; then 7 at the node count, where all counts do not make the pool
--   SpeltLeaf, Spelt              the same, as facts
use Rattle.std.specs.Prelude.{ℕ, zero, suc, ◌+◌, ◌≤◌, ◌<◌, Bool, true, cond, ◌&&◌, ◌≡◌, List, length, leb, ltb, eqb}
use Rattle.facts.specs.Lists.{has, all_under}
use Rattle.refusals.specs.declared.Refusal.TheVariants.{NodeWrong, LeafWrong}
use Rattle.refusals.specs.Verdict.{Verdict}
use Rattle.refusals.specs.Order.{refuse_unless, ◌then◌, in_turn}
use Rattle.trees.specs.Words.{leaf_mark, node_count, field_of, child_of, start_of, count_of, entries}

abbrev pub is_cut : List ℕ → ℕ → Bool
is_cut nodes i = ltb (field_of nodes i) leaf_mark

unfoldable pub leaf_count : List ℕ → ℕ → ℕ
leaf_count nodes i = cond (is_cut nodes i) 0 (count_of nodes i)

unfoldable pub counts_below : List ℕ → ℕ → ℕ
counts_below nodes zero = 0
counts_below nodes (suc i) = counts_below nodes i + leaf_count nodes i

unfoldable pub leaf_spelt : ℕ → List ℕ → List ℕ → ℕ → Bool
leaf_spelt n nodes pool i =
    eqb (start_of nodes i) (counts_below nodes i) && leb (count_of nodes i) n &&
    leb (start_of nodes i + count_of nodes i) (length pool) && all_under n (entries nodes pool i)

unfoldable pub node_verdict : ℕ → List ℕ → List ℕ → ℕ → Verdict
node_verdict n nodes pool i =
    refuse_unless (leb (field_of nodes i) leaf_mark) (NodeWrong i) then
    cond (is_cut nodes i)
    (refuse_unless (ltb (child_of nodes i) (node_count nodes)) (NodeWrong i))
    (refuse_unless (leaf_spelt n nodes pool i) (LeafWrong i))

unfoldable pub spelt_verdict : ℕ → List ℕ → List ℕ → Verdict
spelt_verdict n nodes pool =
    in_turn (node_count nodes) 0 (node_verdict n nodes pool) then
    refuse_unless (eqb (counts_below nodes (node_count nodes)) (length pool)) (LeafWrong (node_count nodes))

pub record SpeltLeaf (n : ℕ) (nodes pool : List ℕ) (i : ℕ) : Type 0 where
  pub start : start_of nodes i ≡ counts_below nodes i
  pub count : count_of nodes i ≤ n
  pub within : start_of nodes i + count_of nodes i ≤ length pool
  pub rules : (y : ℕ) → has (entries nodes pool i) y ≡ true → y < n

pub record Spelt (n : ℕ) (nodes pool : List ℕ) : Type 0 where
  pub first : (i : ℕ) → i < node_count nodes → field_of nodes i ≤ leaf_mark
  pub child : (i : ℕ) → i < node_count nodes → field_of nodes i < leaf_mark → child_of nodes i < node_count nodes
  pub leaf : (i : ℕ) → i < node_count nodes → leaf_mark ≤ field_of nodes i → SpeltLeaf n nodes pool i
  pub total : counts_below nodes (node_count nodes) ≡ length pool
