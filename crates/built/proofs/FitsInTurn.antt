-- Where refusal 4 is, by node numbers and words alone: each node in turn, its words, and then the entries of the leaves
-- up to and including it. A cut adds no entries, so that its second test cannot be the first that fails.
use Prim.Native.Nat.{ℕ, ◌+◌, ◌*◌, ◌≤◌, min}
use native.Mathlib.Omega.{arith}
use mathlib.Core.Bool.{Bool, false}
use mathlib.Core.Path.{◌≡◌, refl, sym, ap, ◌∙◌}
use mathlib.Core.List.{List}
use lib.ListN.{length}
use Rattle.refusals.specs.Verdict.{Verdict}
use Rattle.refusals.specs.Verdict.{Fine}
use Rattle.refusals.specs.Order.{◌then◌, in_turn}
use Rattle.rules.specs.Good.{list_verdict}
use Rattle.trees.specs.Words.{node_words, most_nodes, most_pool, node_count}
use Rattle.trees.specs.Spelt.{counts_below}
use Rattle.trees.proofs.LeafSpelling.{counts_first}
use Rattle.built.specs.Trees.{Tree}
use Rattle.built.specs.Layout.{size, pooled, laid, node_fits, entries_fit, fits}
use Rattle.built.specs.BuiltTree.{built_tree, built_nodes, build_verdict}
use Rattle.built.proofs.Laying.{count_laid}
use Rattle.built.proofs.Fitting.{entries_fit_iff, fine_entries}
use Rattle.built.proofs.Lying.{Lies, a_bud, a_leaf, a_cut}
use Rattle.built.proofs.Covering.{Covers, by_bud, by_leaf, by_cut, built_covers, built_lies}
use Rattle.built.proofs.Counting.{cut_adds_none, counts_pass}
use Rattle.refusals.proofs.Splitting.{then_nothing, then_same, turns_one, turns_first_add}

-- no check in turn is fine
turns_none : (i : ℕ) (check : ℕ → Verdict) → in_turn 0 i check ≡ Fine
unfolding in_turn
turns_none i check = refl

-- what is tested at node i, the room being a and b
abbrev fits_at : List ℕ → ℕ → ℕ → ℕ → Verdict
fits_at nodes a b i = node_fits i a then entries_fit (counts_below nodes (i + 1)) b

-- where the entries of the leaves up to and including node i fit, its words decide
entries_fit_at :
    (nodes : List ℕ) (a b i : ℕ) → counts_below nodes (i + 1) ≤ b → fits_at nodes a b i ≡ node_fits i a
entries_fit_at nodes a b i l =
    rw ((entries_fit_iff (counts_below nodes (i + 1)) b).1 l) (then_nothing (node_fits i a))

module _ (rs nodes pool : List ℕ) (a b : ℕ) where
  -- a tree that lies behind entries that fit is tested node by node in turn
  fits_turns :
      {far : Bool} {k i s : ℕ} {d : List (List ℕ)} {t : Tree} → Covers far rs k d t → Lies nodes pool t i s →
      counts_below nodes i ≡ s → s ≤ b → fits t i s a b ≡ in_turn (size t) i (fits_at nodes a b)
  unfolding fits size pooled
  fits_turns (by_bud e) (a_bud {i = i} n) q h = sym (turns_none i (fits_at nodes a b))
  fits_turns (by_leaf w) (a_leaf {l = l} {i = i} {s = s} there f start c u e) q h =
      let up : counts_below nodes (i + 1) ≡ s + length l =
      counts_pass rs nodes pool {far = false} (by_leaf {k = 0} w) (a_leaf {l = l} there f start c u e) q in
      rw (turns_one i (fits_at nodes a b), up)
  fits_turns (by_cut u c p r) (a_cut {i = i} {s = s} {x = x} {y = y} there f v child left right) q h =
      let first : counts_below nodes (i + 1) ≡ s = cut_adds_none nodes i (omega arith) ∙ q in
      let lefts = fits_turns p left first h in
      rw (
        turns_first_add (size x) (size y) i (fits_at nodes a b),
        entries_fit_at nodes a b i (omega arith),
        ← lefts,
      )
      (ap (λ (w : Verdict). node_fits i a then w) (then_same (fits x (i + 1) s a b)
      (λ e.
      fits_turns r right (counts_pass rs nodes pool p left first) (fine_entries x (i + 1) s a b b h (omega arith) e))))

module _ {far : Bool} (rs : List ℕ) {k : ℕ} {d : List (List ℕ)} (t : Tree) (c : Covers far rs k d t)
    (w : Lies (laid t 0 0) (pooled t) t 0 0) (a b : ℕ) where
  -- a tree that covers the rules is tested for the room a and b at each node in turn: the words of the nodes up to and
  -- including it, and then the entries of the leaves up to and including it
  pub fits_in_turn :
      fits t 0 0 a b ≡
      in_turn (node_count (laid t 0 0)) 0 (λ i. node_fits i a then entries_fit (counts_below (laid t 0 0) (i + 1)) b)
  fits_in_turn =
      rw (count_laid t 0 0)
      (fits_turns rs (laid t 0 0) (pooled t) a b c w (sym (counts_first (laid t 0 0))) (omega arith))

-- the build refuses with 1, 2, 11, and then with 4 at the first node that passes the room or the limits of a tree
pub build_in_turn :
    (rs : List ℕ) (a b : ℕ) →
    build_verdict rs a b ≡
    (list_verdict rs then
    in_turn (node_count (built_nodes rs)) 0
    (λ i.
    node_fits i (min a (most_nodes * node_words)) then entries_fit (counts_below (built_nodes rs) (i + 1)) (min b most_pool)))
unfolding build_verdict
build_in_turn rs a b =
    ap (λ (v : Verdict). list_verdict rs then v)
    (fits_in_turn rs (built_tree rs) (built_covers rs) (built_lies rs) (min a (most_nodes * node_words)) (min b most_pool))
