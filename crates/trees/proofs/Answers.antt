-- The answers of the tree search: a refusal on the way is the answer, and at a leaf that was reached its entries
-- decide.
use Rattle.trees.specs.declared.search.Listed.{Listed}
use Rattle.trees.specs.declared.search.First.{First}
use Rattle.trees.specs.Answers.{ComesTo}
use Rattle.std.specs.Prelude.{Err, Result}
use Prim.Native.Nat.{ℕ, ◌+◌, ◌-◌, ◌≤◌}
use mathlib.Core.Path.{◌≡◌, refl, ap}
use mathlib.Core.List.{List}
use lib.ListN.{length, take, drop}
use borrow.Author.Tests.{leb-true}
use Rattle.facts.specs.Lists.{keep}
use Rattle.refusals.specs.declared.Refusal.{Refusal}
use Rattle.refusals.specs.Verdict.{Fine}
use Rattle.refusals.proofs.Order.{fine_iff_holds, then_refused, then_fine_iff}
use Rattle.refusals.proofs.Promises.{says_refused, says_fine, writes_refused, writes_after}
use Rattle.fields.proofs.Headers.{legal_iff}
use Rattle.rules.specs.Matching.{matches}
use Rattle.trees.specs.Words.{start_of, count_of}
use Rattle.trees.specs.Walk.{walk_of, leaf_of, visited}
use Rattle.trees.specs.Search.{leaf_verdict, reach_verdict, leaf_list, tree_list}
use Rattle.trees.specs.TreeAll.{tree_all_verdict, TreeAllSearched}
use Rattle.trees.specs.TreeFirst.{TreeFirstSearched}
use Rattle.trees.specs.Steps.{AtLeaf, Reaches, Comparable, LeafListed, LeafFirst}
use Rattle.trees.proofs.Spelling.{part_is_entries}

-- ---- the whole search

module _ (rs nodes pool h : List ℕ) where
  -- what a leaf that was reached tells
  pub record AtReached (s k n : ℕ) : Type 0 where
    pub fine : reach_verdict rs nodes pool h ≡ Fine
    pub words : AtLeaf nodes (leaf_of (walk_of nodes h)) s k
    pub seen : n ≡ visited (walk_of nodes h)

  -- where a leaf was reached the search is fine so far, and these are its words and the nodes visited
  pub at_reached : {s k n : ℕ} → Reaches rs nodes pool h (ComesTo s k n) → AtReached s k n
  at_reached (Reaches.comes e a q) = record { fine = e; words = a; seen = q }

  module _ {s k n : ℕ} (a : AtReached s k n) where
    -- a leaf that was reached is fine
    leaf_fine : leaf_verdict rs nodes pool (leaf_of (walk_of nodes h)) ≡ Fine
    unfolding reach_verdict
    leaf_fine = ((then_fine_iff _ _).0 ((then_fine_iff _ _).0 a.fine).1).1

    -- the leaf's entries are this part of the pool
    pub part_is_leaf : take (s + k - s) (drop s pool) ≡ leaf_list nodes pool h
    unfolding leaf_list
    part_is_leaf = part_is_entries nodes pool (leaf_of (walk_of nodes h)) s k a.words.start_is a.words.count_is

    -- the leaf's entries lie within the pool
    pub part_within : s + k ≤ length pool
    unfolding leaf_verdict
    part_within =
        let i = leaf_of (walk_of nodes h) in
        let t = ((then_fine_iff _ _).0 leaf_fine).0 in
        let l = leb-true (start_of nodes i + count_of nodes i) (length pool) ((fine_iff_holds _ _).0 t) in
        rw (a.words.start_is, a.words.count_is) l

    -- the leaf's entries can be compared with the header
    pub part_comparable : Comparable rs h (take (s + k - s) (drop s pool))
    unfolding leaf_verdict reach_verdict leaf_list
    part_comparable =
        record {
          five = ((legal_iff h).0 ((then_fine_iff _ _).0 a.fine).0).0;
          known = rw part_is_leaf ((fine_iff_holds _ _).0 ((then_fine_iff _ _).0 leaf_fine).1);
        }

    -- the entries of this part that match are those that the tree gives
    list : keep (matches rs h) (take (s + k - s) (drop s pool)) ≡ tree_list rs nodes pool h
    unfolding tree_list
    list = ap (keep (matches rs h)) part_is_leaf

    -- what is said of the leaf's entries is what the search for all matches says
    pub all_at_leaf :
        {before after : List ℕ} {r : Result Listed Refusal} → LeafListed rs h (take (s + k - s) (drop s pool)) n before r after →
        TreeAllSearched rs nodes pool h before r after
    unfolding tree_all_verdict
    all_at_leaf w = writes_after a.fine (rw (list, a.seen, part_is_leaf) at w)

    -- what is said of the leaf's entries is what the search for the first match says
    pub first_at_leaf :
        {r : Result First Refusal} → LeafFirst rs h (take (s + k - s) (drop s pool)) n r → TreeFirstSearched rs nodes pool h r
    first_at_leaf w = says_fine a.fine (rw (list, a.seen, part_is_leaf) at w.is)

  -- a refusal on the way is the answer of the search for all matches, and the words are as found
  pub all_refused :
      {why : Refusal} (before : List ℕ) → Reaches rs nodes pool h (Err why) →
      TreeAllSearched rs nodes pool h before (Err why) before
  unfolding tree_all_verdict
  all_refused before (Reaches.refuses e) = writes_refused (then_refused _ e) refl refl

  -- a refusal on the way is the answer of the search for the first match
  pub first_refused :
      {why : Refusal} → Reaches rs nodes pool h (Err why) →
      TreeFirstSearched rs nodes pool h (Err why)
  first_refused (Reaches.refuses e) = says_refused e refl
