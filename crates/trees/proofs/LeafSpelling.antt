-- A leaf, *spelt*: the counts that its start is the sum of, its tests one by one, and that they say exactly what
-- `SpeltLeaf` does.
use Prim.Native.Nat.{ℕ, ◌+◌, ◌≤◌, ◌<◌}
use native.Mathlib.Numerals.{add-one}
use mathlib.Core.Bool.{Bool, true, false}
use mathlib.Core.Path.{◌≡◌, refl, sym}
use mathlib.Core.Logic.{◌↔◌}
use mathlib.Core.List.{List}
use lib.ListN.{length}
use borrow.Author.Tests.{leb-true, eqb-true, lt-ltb, le-ltb, le-leb, lt-leb, eq-eqb, ne_eqb}
use Rattle.facts.specs.Lists.{all_under}
use Rattle.facts.proofs.Bools.{both}
use Rattle.facts.proofs.Under.{all_under_iff_has}
use Rattle.trees.specs.Words.{leaf_mark, field_of, start_of, count_of, entries}
use Rattle.trees.specs.Spelt.{leaf_count, counts_below, leaf_spelt, SpeltLeaf}

-- ---- the counts

-- the counts below node 0 sum to 0
pub counts_first : (nodes : List ℕ) → 0 ≡ counts_below nodes 0
unfolding counts_below
counts_first nodes = refl

-- the counts below the next node are those below this one and its own
pub counts_step : (nodes : List ℕ) (i : ℕ) → counts_below nodes (i + 1) ≡ counts_below nodes i + leaf_count nodes i
unfolding counts_below
counts_step nodes i = rw add-one

-- the count of a cut is 0
pub cut_counts_none : (nodes : List ℕ) (i : ℕ) → field_of nodes i < leaf_mark → 0 ≡ leaf_count nodes i
unfolding leaf_count
cut_counts_none nodes i l = rw (lt-ltb (field_of nodes i) leaf_mark l)

-- the count of a leaf is its third word
pub leaf_counts : (nodes : List ℕ) (i : ℕ) → leaf_mark ≤ field_of nodes i → count_of nodes i ≡ leaf_count nodes i
unfolding leaf_count
leaf_counts nodes i l = rw (le-ltb (field_of nodes i) leaf_mark l)

-- ---- the tests

module _ (n : ℕ) (nodes pool : List ℕ) (i : ℕ) where
  -- a start that is not the sum of the counts below is wrong
  pub start_wrong : (start_of nodes i ≡ counts_below nodes i → ⊥) → false ≡ leaf_spelt n nodes pool i
  unfolding leaf_spelt
  start_wrong e = rw (ne_eqb (start_of nodes i) (counts_below nodes i) e)

  module _ (s : start_of nodes i ≡ counts_below nodes i) where
    -- a count over the number of rules is wrong
    pub count_wrong : n < count_of nodes i → false ≡ leaf_spelt n nodes pool i
    unfolding leaf_spelt
    count_wrong l = rw (eq-eqb (start_of nodes i) (counts_below nodes i) s, lt-leb (count_of nodes i) n l)

    module _ (c : count_of nodes i ≤ n) where
      -- an end past the pool's is wrong
      pub end_wrong : length pool < start_of nodes i + count_of nodes i → false ≡ leaf_spelt n nodes pool i
      unfolding leaf_spelt
      end_wrong l =
          rw (
            eq-eqb (start_of nodes i) (counts_below nodes i) s,
            le-leb (count_of nodes i) n c,
            lt-leb (start_of nodes i + count_of nodes i) (length pool) l,
          )

      -- where start, count and end are right the entries decide
      pub entries_decide :
          start_of nodes i + count_of nodes i ≤ length pool → {t : Bool} → t ≡ all_under n (entries nodes pool i) →
          t ≡ leaf_spelt n nodes pool i
      unfolding leaf_spelt
      entries_decide l e =
          rw (
            eq-eqb (start_of nodes i) (counts_below nodes i) s,
            le-leb (count_of nodes i) n c,
            le-leb (start_of nodes i + count_of nodes i) (length pool) l,
          )
          e

  -- a leaf whose tests hold is spelt
  spelt_of_tests : leaf_spelt n nodes pool i ≡ true → SpeltLeaf n nodes pool i
  unfolding leaf_spelt
  spelt_of_tests e =
      let t = both _ _ e in
      let u = both _ _ t.0 in
      let v = both _ _ u.0 in
      record {
        start = eqb-true (start_of nodes i) (counts_below nodes i) v.0;
        count = leb-true (count_of nodes i) n v.1;
        within = leb-true (start_of nodes i + count_of nodes i) (length pool) u.1;
        rules = (all_under_iff_has n (entries nodes pool i)).0 t.1;
      }

  -- the tests of a leaf that is spelt hold
  tests_of_spelt : SpeltLeaf n nodes pool i → leaf_spelt n nodes pool i ≡ true
  tests_of_spelt s =
      sym
      (entries_decide s.start s.count s.within
      (sym ((all_under_iff_has n (entries nodes pool i)).1 s.rules)))

  -- a leaf's tests hold exactly where it is spelt
  pub leaf_spelt_iff : (leaf_spelt n nodes pool i ≡ true) ↔ SpeltLeaf n nodes pool i
  leaf_spelt_iff = (spelt_of_tests, tests_of_spelt)
