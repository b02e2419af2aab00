-- A node's line that reads well and passes its tests is the line of the node that it adds.
use Prim.Native.Nat.{ℕ, suc, ◌+◌, ◌*◌, ◌≤◌, ◌<◌, ◌^◌}
use native.Mathlib.Omega.{arith}
use mathlib.Core.Bool.{true, ◌&&◌}
use mathlib.Core.Path.{◌≡◌, refl, sym, ap, ◌∙◌}
use mathlib.Core.List.{List, [], ◌∷◌, ◌++◌}
use lib.ListN.{length, get_or, take, drop, length-append, length-drop, length-replicate}
use lib.Seq.{drop-append_seam, take_all}
use Rattle.facts.specs.Lists.{tabulate, all_under}
use Rattle.facts.proofs.Bools.{both}
use Rattle.facts.proofs.Setting.{cells}
use Rattle.facts.proofs.Under.{all_under_iff_has}
use Rattle.trees.specs.Words.{node_words, leaf_mark, field_of, entries}
use Rattle.trees.specs.Spelt.{SpeltLeaf}
use Rattle.trees.proofs.LeafSpelling.{cut_counts_none, leaf_counts}
use Rattle.text.specs.Words.{cut_word, leaf_word, four_tabs}
use Rattle.text.specs.Line.{print_line, EachUnder}
use Rattle.text.proofs.Below.{below_at}
use Rattle.text.proofs.Counted.{counted_marks}
use Rattle.text.proofs.Lines.{Line}
use Rattle.tree_file.specs.TreeText.{cut_fits, leaf_fits}
use Rattle.tree_file.specs.TreeLines.{node_line}
use Rattle.tree_file.proofs.Growing.{SpeltAt, word_last, counts_kept, cut_line, leaf_line}
use Rattle.tree_file.proofs.Tests.{cut_passes, leaf_passes}
use Rattle.tree_file.proofs.SoFar.{NodesSoFar, NodeAdded, few_of}

-- a list of two numbers or more begins with them
two_cells : (v : List ℕ) → 2 ≤ length v → v ≡ get_or v 0 0 ∷ get_or v 1 0 ∷ drop 2 v
two_cells [] h = absurd (omega arith)
two_cells (a ∷ []) h = absurd (omega arith)
two_cells (a ∷ b ∷ v) h = refl

-- ---- the two kinds

module _ {word : List ℕ} {n m p i : ℕ} {ws es t l v : List ℕ} (w : NodesSoFar word n m p i ws es t) where
  module _ (f : Line cut_word four_tabs l v) (e : cut_fits m i (get_or v 0 0) (get_or v 1 0) (get_or v 3 0) ≡ true) where
    xs : List ℕ
    xs = get_or v 1 0 ∷ get_or v 2 0 ∷ get_or v 3 0 ∷ []

    -- a cut line that passes is the line of the cut that it adds
    cut_text : l ≡ node_line (ws ++ xs) (es ++ []) i
    unfolding tabulate xs
    cut_text =
        let q = cut_passes m i (get_or v 0 0) (get_or v 1 0) (get_or v 3 0) e in
        let word_of_lem : (j : ℕ) → _ = λ j. word_last ws xs i j w.size in
        let numbers : v ≡ i ∷ get_or v 1 0 ∷ get_or v 2 0 ∷ get_or v 3 0 ∷ [] = cells 4 v f.count ∙ rw q.0 in
        f.text ∙ ap (print_line cut_word four_tabs) numbers ∙
        sym (cut_line (ws ++ xs) (es ++ []) i (rw (word_of_lem 0) q.1) ∙ rw (word_of_lem 0, word_of_lem 1, word_of_lem 2))

    first : field_of (ws ++ xs) i < leaf_mark
    unfolding xs
    first = rw (word_last ws xs i 0 w.size) (cut_passes m i (get_or v 0 0) (get_or v 1 0) (get_or v 3 0) e).1

    -- the cut that is added is spelt
    cut_spelt : SpeltAt n m (ws ++ xs) (es ++ []) i
    unfolding xs
    cut_spelt =
        let q = cut_passes m i (get_or v 0 0) (get_or v 1 0) (get_or v 3 0) e in
        record {
          first = omega (arith, first);
          child = λ g. rw (word_last ws xs i 2 w.size) q.2;
          leaf = λ g. absurd (omega (arith, first));
        }

    -- a cut line that passes adds a cut
    pub cut_node : NodeAdded n m p i ws es (get_or v 1 0 ∷ get_or v 2 0 ∷ get_or v 3 0 ∷ []) [] l
    unfolding xs
    cut_node =
        let small : (j : ℕ) → get_or v j 0 < 2 ^ 32 = λ j. below_at (2 ^ 32) v j (omega arith) f.below in
        record {
          size = refl;
          line = cut_text;
          spelt = cut_spelt;
          count = sym (cut_counts_none (ws ++ xs) i first);
          below = (small 1, (small 2, (small 3, tt)));
          room = omega (arith, w.room);
        }

  module _ (f : Line leaf_word (counted_marks v) l v)
      (e : (leaf_fits n p i (length es) (get_or v 0 0) (get_or v 1 0) && all_under n (drop 2 v)) ≡ true) where
    ls : List ℕ
    ls = leaf_mark ∷ length es ∷ get_or v 1 0 ∷ []

    ys : List ℕ
    ys = drop 2 v

    tests : (leaf_fits n p i (length es) (get_or v 0 0) (get_or v 1 0) ≡ true) × (all_under n ys ≡ true)
    unfolding ys
    tests = both (leaf_fits n p i (length es) (get_or v 0 0) (get_or v 1 0)) (all_under n ys) e

    passes : (get_or v 0 0 ≡ i) × (get_or v 1 0 ≤ n) × (length es + get_or v 1 0 ≤ p)
    passes = leaf_passes n p i (length es) (get_or v 0 0) (get_or v 1 0) tests.0

    -- the numbers are two and as many as the second says
    length_v : length v ≡ 2 + get_or v 1 0
    length_v =
        f.count ∙ ap (λ (k : ℕ). suc (suc k)) (length-replicate (get_or v 1 0) 9) ∙ omega arith

    -- there are as many entries as the count says
    length_ys : length ys ≡ get_or v 1 0
    unfolding ys
    length_ys = length-drop 2 v ∙ omega (arith, length_v)

    -- the entries of the leaf that is added are those of its line
    part : take (get_or v 1 0) (drop (length es) (es ++ ys)) ≡ ys
    part = rw (drop-append_seam es ys) (take_all (get_or v 1 0) ys (omega (arith, length_ys)))

    word_of_lem : (j : ℕ) → get_or (ws ++ ls) (i * node_words + j) 0 ≡ get_or ls j 0
    word_of_lem j = word_last ws ls i j w.size

    entries_are : entries (ws ++ ls) (es ++ ys) i ≡ ys
    unfolding entries ls
    entries_are = rw (word_of_lem 1, word_of_lem 2) part

    -- a leaf line that passes is the line of the leaf that it adds
    leaf_text : l ≡ node_line (ws ++ ls) (es ++ ys) i
    unfolding ls ys
    leaf_text =
        let numbers : v ≡ i ∷ get_or v 1 0 ∷ ys = two_cells v (omega (arith, length_v)) ∙ rw passes.0 in
        f.text ∙ ap (print_line leaf_word (counted_marks v)) numbers ∙
        sym (leaf_line (ws ++ ls) (es ++ ys) i (rw (word_of_lem 0) (omega arith)) ∙ rw (word_of_lem 2, entries_are))

    -- the leaf that is added is spelt
    leaf_spelt : SpeltLeaf n (ws ++ ls) (es ++ ys) i
    unfolding ls ys
    leaf_spelt =
        record {
          start = word_of_lem 1 ∙ sym w.total ∙ sym (counts_kept ws ls i (omega (arith, w.size)));
          count = rw (word_of_lem 2) passes.1;
          within = rw (word_of_lem 1, word_of_lem 2, length-append es ys) (omega (arith, length_ys));
          rules = λ y. rw entries_are ((all_under_iff_has n ys).0 tests.1 y);
        }

    mark : leaf_mark ≤ field_of (ws ++ ls) i
    unfolding ls
    mark = rw (word_of_lem 0) (omega arith)

    leaf_at : SpeltAt n m (ws ++ ls) (es ++ ys) i
    unfolding ls
    leaf_at =
        record {
          first = rw (word_of_lem 0) (omega arith);
          child = λ g. absurd (omega (arith, mark));
          leaf = λ g. leaf_spelt;
        }

    -- the numbers of the leaf that is added are of 32 bits
    leaf_small : EachUnder (2 ^ 32) ls
    unfolding ls
    leaf_small =
        let few = few_of n m p w.limits in
        (omega arith, (omega (arith, w.room, few.pool), (below_at (2 ^ 32) v 1 (omega arith) f.below, tt)))

    -- a leaf line that passes adds a leaf and its entries
    pub leaf_node : NodeAdded n m p i ws es (leaf_mark ∷ length es ∷ get_or v 1 0 ∷ []) (drop 2 v) l
    unfolding ls ys
    leaf_node =
        record {
          size = refl;
          line = leaf_text;
          spelt = leaf_at;
          count = sym (leaf_counts (ws ++ ls) i mark) ∙ word_of_lem 2 ∙ sym length_ys;
          below = leaf_small;
          room = omega (arith, length_ys, passes.2);
        }
