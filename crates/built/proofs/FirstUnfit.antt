-- What refusal 4 of the build means: it is given for the first node that does not fit, with the words that are wanted
-- up to and including it, nodes before pool.
use Prim.Native.Nat.{ℕ, zero, suc, ◌+◌, ◌*◌, ◌≤◌, ◌<◌, min}
use native.Mathlib.Numerals.{add-one}
use native.Mathlib.Omega.{arith}
use mathlib.Core.Bool.{Bool}
use mathlib.Core.Path.{◌≡◌, refl, sym, subst, ◌∙◌}
use mathlib.Core.Logic.{◌↔◌}
use mathlib.Core.List.{List}
use borrow.Author.Tests.{lt-leb}
use Rattle.facts.proofs.Cases.{WithinOrOver, at_most, over, within_or_over}
use Rattle.refusals.specs.declared.Refusal.{Refusal}
use Rattle.refusals.specs.declared.Refusal.TheVariants.{OutputShort}
use Rattle.refusals.specs.Verdict.{Verdict}
use Rattle.refusals.specs.Verdict.{Fine, Refused}
use Rattle.refusals.specs.Order.{◌then◌}
use Rattle.refusals.proofs.Order.{refused_not_fine, fails_refused, then_fine, then_refused, then_fine_iff}
use Rattle.refusals.proofs.Turns.{lowest_of_turns, turns_of_lowest}
use Rattle.rules.specs.Good.{list_verdict}
use Rattle.trees.specs.Words.{node_words, most_nodes, most_pool, leaf_mark, node_count, field_of}
use Rattle.trees.specs.Spelt.{counts_below}
use Rattle.trees.proofs.LeafSpelling.{counts_first}
use Rattle.built.specs.Trees.{Tree}
use Rattle.built.specs.Layout.{pooled, laid, node_fits, entries_fit, fits}
use Rattle.built.specs.BuiltTree.{built_tree, built_nodes, build_verdict}
use Rattle.built.specs.FirstUnfit.{RoomAt, Unfit, node_short, pool_short, FirstUnfit}
use Rattle.built.proofs.Fitting.{node_fits_iff, entries_fit_iff}
use Rattle.built.proofs.Counting.{cut_adds_none}
use Rattle.built.proofs.Lying.{Lies}
use Rattle.built.proofs.Covering.{Covers, built_covers, built_lies}
use Rattle.built.proofs.FitsInTurn.{fits_in_turn}

module _ (nodes : List ℕ) (a b : ℕ) where
  -- what is tested at node i
  abbrev test : ℕ → Verdict
  test i = node_fits i a then entries_fit (counts_below nodes (i + 1)) b

  test_fine_iff : (i : ℕ) → (test i ≡ Fine) ↔ RoomAt nodes a b i
  test_fine_iff i = (
    λ e.
        let t = (then_fine_iff (node_fits i a) (entries_fit (counts_below nodes (i + 1)) b)).0 e in
        ((node_fits_iff i a).0 t.0, (entries_fit_iff (counts_below nodes (i + 1)) b).0 t.1),
    λ h.
        (then_fine_iff (node_fits i a) (entries_fit (counts_below nodes (i + 1)) b)).1
        ((node_fits_iff i a).1 h.0, (entries_fit_iff (counts_below nodes (i + 1)) b).1 h.1),
  )

  nodes_refuse : (i : ℕ) → a < (i + 1) * node_words → test i ≡ Refused (OutputShort ((i + 1) * node_words) 0)
  unfolding node_fits
  nodes_refuse i l = then_refused _ (fails_refused _ (lt-leb ((i + 1) * node_words) a l))

  pool_refuses :
      (i : ℕ) → (i + 1) * node_words ≤ a → b < counts_below nodes (i + 1) →
      test i ≡ Refused (OutputShort (counts_below nodes (i + 1)) 1)
  unfolding entries_fit
  pool_refuses i l u =
      then_fine _ ((node_fits_iff i a).1 l) ∙ fails_refused _ (lt-leb (counts_below nodes (i + 1)) b u)

  unfit_refused : (i : ℕ) {why : Refusal} → Unfit nodes a b i why → test i ≡ Refused why
  unfit_refused i (node_short l) = nodes_refuse i l
  unfit_refused i (pool_short l u) = pool_refuses i l u

  refused_unfit : (i : ℕ) {why : Refusal} → test i ≡ Refused why → Unfit nodes a b i why
  refused_unfit i {why} e =
      go (within_or_over ((i + 1) * node_words) a) (within_or_over (counts_below nodes (i + 1)) b)
    where
      same_why : {x : Refusal} → test i ≡ Refused x → x ≡ why
      same_why q = cc

      go :
          WithinOrOver ((i + 1) * node_words) a → WithinOrOver (counts_below nodes (i + 1)) b → Unfit nodes a b i why
      go (over l) w = subst (Unfit nodes a b i) (same_why (nodes_refuse i l)) (node_short l)
      go (at_most l) (over u) = subst (Unfit nodes a b i) (same_why (pool_refuses i l u)) (pool_short l u)
      go (at_most l) (at_most u) = refused_not_fine (sym e ∙ (test_fine_iff i).1 (l, u))

  -- a node that is refused for the pool, where those before it fit, is a leaf
  pub pool_short_leaf :
      (i : ℕ) → ((j : ℕ) → j < i → RoomAt nodes a b j) → b < counts_below nodes (i + 1) → leaf_mark ≤ field_of nodes i
  pool_short_leaf i h u = go (within_or_over leaf_mark (field_of nodes i))
    where
      below : (m : ℕ) → m ≡ i → counts_below nodes m ≤ b
      below zero q = omega (arith, counts_first nodes)
      below (suc m) q = rw (← add-one) (h m (omega arith)).1

      go : WithinOrOver leaf_mark (field_of nodes i) → leaf_mark ≤ field_of nodes i
      go (at_most l) = l
      go (over l) = absurd (omega (arith, cut_adds_none nodes i l, below i refl))

-- a tree that covers the rules is refused for why in the room a and b exactly where why says of its first node that
-- does not fit what is wanted
pub fits_refused_iff :
    {far : Bool} (rs : List ℕ) {k : ℕ} {d : List (List ℕ)} (t : Tree) → Covers far rs k d t →
    Lies (laid t 0 0) (pooled t) t 0 0 → (a b : ℕ) (why : Refusal) →
    (fits t 0 0 a b ≡ Refused why) ↔ FirstUnfit (laid t 0 0) a b why
fits_refused_iff rs t c lies a b why = (to, of)
  where
    nodes : List ℕ
    nodes = laid t 0 0

    to : fits t 0 0 a b ≡ Refused why → FirstUnfit (laid t 0 0) a b why
    to e =
        let w =
        lowest_of_turns (node_count nodes) 0 (test nodes a b) (sym (fits_in_turn rs t c lies a b) ∙ e) in
        record {
          node = w.at;
          there = omega (arith, w.below);
          before = λ j l. (test_fine_iff nodes a b j).0 (w.fine_before j (omega arith) l);
          unfit = refused_unfit nodes a b w.at w.refuses;
        }

    of : FirstUnfit (laid t 0 0) a b why → fits t 0 0 a b ≡ Refused why
    of w =
        fits_in_turn rs t c lies a b ∙
        turns_of_lowest (node_count nodes) 0 (test nodes a b)
        (record {
          at = w.node;
          from = omega arith;
          below = omega (arith, w.there);
          refuses = unfit_refused nodes a b w.node w.unfit;
          fine_before = λ j l u. (test_fine_iff nodes a b j).1 (w.before j u);
        })

-- of a good list the build is refused for why exactly where why says of the tree's first node that does not fit in the
-- room, or in the limits of a tree, what is wanted
pub build_refused_iff :
    (rs : List ℕ) (a b : ℕ) (why : Refusal) → list_verdict rs ≡ Fine →
    (build_verdict rs a b ≡ Refused why) ↔
    FirstUnfit (built_nodes rs) (min a (most_nodes * node_words)) (min b most_pool) why
unfolding build_verdict
build_refused_iff rs a b why good =
    rw (then_fine (fits (built_tree rs) 0 0 (min a (most_nodes * node_words)) (min b most_pool)) good)
    (fits_refused_iff rs (built_tree rs) (built_covers rs) (built_lies rs) (min a (most_nodes * node_words))
    (min b most_pool) why)
