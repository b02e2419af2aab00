-- The sizes of a tree: the tests one by one, and that 5 is not given exactly where the sizes hold.
use Prim.Native.Nat.{ℕ, ◌*◌, ◌%◌, ◌≤◌, ◌<◌}
use mathlib.Core.Path.{◌≡◌, sym, ◌∙◌}
use mathlib.Core.Logic.{◌↔◌}
use mathlib.Core.List.{List}
use lib.ListN.{length}
use lib.Dec.{leb}
use borrow.Author.Tests.{ltb-true, leb-true, eqb-true, lt-ltb, le-ltb, le-leb, lt-leb, eq-eqb, ne_eqb}
use Rattle.refusals.specs.declared.Refusal.TheVariants.{TreeWordsWrong}
use Rattle.refusals.specs.Verdict.{Fine, Refused}
use Rattle.refusals.specs.Order.{refuse_unless, ◌then◌}
use Rattle.refusals.proofs.Order.{holds_fine, fails_refused, fine_iff_holds, then_fine, then_refused, then_fine_iff}
use Rattle.trees.specs.Words.{node_words, most_nodes, most_pool, size_verdict}

-- ---- the tests

module _ (nodes pool : List ℕ) where
  -- no node words are wrong
  pub none_wrong : length nodes ≤ 0 → Refused TreeWordsWrong ≡ size_verdict nodes pool
  unfolding size_verdict
  none_wrong l = sym (then_refused _ (fails_refused _ (le-ltb 0 (length nodes) l)))

  module _ (some : 0 < length nodes) where
    -- node words that are not whole nodes are wrong
    pub broken_wrong : (length nodes % node_words ≡ 0 → ⊥) → Refused TreeWordsWrong ≡ size_verdict nodes pool
    unfolding size_verdict
    broken_wrong e =
        sym
        (then_fine _ (holds_fine _ (lt-ltb 0 (length nodes) some)) ∙
        then_refused _ (fails_refused _ (ne_eqb (length nodes % node_words) 0 e)))

    module _ (whole : length nodes % node_words ≡ 0) where
      -- whole nodes are judged by their number, and then by the pool's length
      rest_decides :
          size_verdict nodes pool ≡
          (refuse_unless (leb (length nodes) (most_nodes * node_words)) TreeWordsWrong then
          refuse_unless (leb (length pool) most_pool) TreeWordsWrong)
      unfolding size_verdict
      rest_decides =
          then_fine _ (holds_fine _ (lt-ltb 0 (length nodes) some)) ∙
          then_fine _ (holds_fine _ (eq-eqb (length nodes % node_words) 0 whole))

      -- too many nodes are wrong
      pub many_wrong : most_nodes * node_words < length nodes → Refused TreeWordsWrong ≡ size_verdict nodes pool
      many_wrong l =
          sym (rest_decides ∙ then_refused _ (fails_refused _ (lt-leb (length nodes) (most_nodes * node_words) l)))

      module _ (few : length nodes ≤ most_nodes * node_words) where
        -- nodes that are not too many leave it to the pool's length
        pool_decides : size_verdict nodes pool ≡ refuse_unless (leb (length pool) most_pool) TreeWordsWrong
        pool_decides = rest_decides ∙ then_fine _ (holds_fine _ (le-leb (length nodes) (most_nodes * node_words) few))

        -- too long a pool is wrong
        pub pool_wrong : most_pool < length pool → Refused TreeWordsWrong ≡ size_verdict nodes pool
        pool_wrong l = sym (pool_decides ∙ fails_refused _ (lt-leb (length pool) most_pool l))

        -- a pool that is not too long is fine
        pub pool_fine : length pool ≤ most_pool → Fine ≡ size_verdict nodes pool
        pool_fine l = sym (pool_decides ∙ holds_fine _ (le-leb (length pool) most_pool l))

-- ---- what they say

-- there are nodes, whole ones, not too many, and the pool is not too long
pub record Sizes (nodes pool : List ℕ) : Type 0 where
  pub some_node : 0 < length nodes
  pub whole : length nodes % node_words ≡ 0
  pub few_nodes : length nodes ≤ most_nodes * node_words
  pub short_pool : length pool ≤ most_pool

-- sizes that are fine hold
sizes_of_fine : (nodes pool : List ℕ) → size_verdict nodes pool ≡ Fine → Sizes nodes pool
unfolding size_verdict
sizes_of_fine nodes pool e =
    let t = (then_fine_iff _ _).0 e in
    let u = (then_fine_iff _ _).0 t.1 in
    let v = (then_fine_iff _ _).0 u.1 in
    record {
      some_node = ltb-true 0 (length nodes) ((fine_iff_holds _ _).0 t.0);
      whole = eqb-true (length nodes % node_words) 0 ((fine_iff_holds _ _).0 u.0);
      few_nodes = leb-true (length nodes) (most_nodes * node_words) ((fine_iff_holds _ _).0 v.0);
      short_pool = leb-true (length pool) most_pool ((fine_iff_holds _ _).0 v.1);
    }

-- sizes that hold are fine
fine_of_sizes : (nodes pool : List ℕ) → Sizes nodes pool → size_verdict nodes pool ≡ Fine
fine_of_sizes nodes pool s =
    sym (pool_fine nodes pool s.some_node s.whole s.few_nodes s.short_pool)

-- the sizes are fine exactly where they hold
pub sizes_fine_iff : (nodes pool : List ℕ) → (size_verdict nodes pool ≡ Fine) ↔ Sizes nodes pool
sizes_fine_iff nodes pool = (sizes_of_fine nodes pool, fine_of_sizes nodes pool)
