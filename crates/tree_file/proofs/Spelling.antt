-- What a tree that is written is known by: its sizes, its nodes, and what stands in its lines.
use Prim.Native.Nat.{ℕ, zero, suc, ◌+◌, ◌*◌, ◌≤◌, ◌<◌, ◌^◌}
use native.Mathlib.Omega.{arith}
use mathlib.Core.Bool.{true}
use mathlib.Core.Path.{◌≡◌, refl, sym, ap, ◌∙◌}
use mathlib.Core.List.{List, [], ◌∷◌, ◌++◌}
use lib.ListN.{length, get_or, take, drop, length-take, length-drop}
use lib.Dec.{ltb}
use lib.Seq.{take-add, get_or-take, get_or-drop}
use borrow.Author.Tests.{ltb-true}
use Rattle.facts.specs.Lists.{tabulate, all_under}
use Rattle.facts.proofs.Bools.{both}
use Rattle.facts.proofs.Setting.{cells}
use Rattle.facts.proofs.Under.{all_under_iff_has}
use Rattle.trees.specs.Words.{node_words, most_nodes, node_count, node_word, field_of, value_of, child_of, count_of, entries}
use Rattle.trees.specs.Spelt.{SpeltLeaf}
use Rattle.trees.proofs.Sizes.{Sizes, sizes_fine_iff}
use Rattle.text.specs.Numbers.{is_digit}
use Rattle.text.specs.Line.{EachUnder, parting}
use Rattle.text.proofs.Below.{below_at}
use Rattle.text.proofs.Plain.{Plain}
use Rattle.tree_file.specs.WriteSteps.{Writable}
use Rattle.tree_file.specs.TreeLines.{cut_numbers, leaf_numbers, leaf_marks, Spelling}

-- the separators of a leaf line part its numbers
pub tabs_part : (c : ℕ) → parting (leaf_marks c) ≡ true
unfolding is_digit
tabs_part zero = refl
tabs_part (suc c) = tabs_part c

-- the separators of a leaf line have no newline among them
pub tabs_plain : (c : ℕ) → Plain (leaf_marks c)
tabs_plain zero = ((λ e. omega arith), ((λ e. omega arith), tt))
tabs_plain (suc c) = ((λ e. omega arith), tabs_plain c)

-- numbers below n are below every limit from n on
pub under_below : (n lim : ℕ) (l : List ℕ) → n ≤ lim → all_under n l ≡ true → EachUnder lim l
unfolding all_under
under_below n lim [] h e = tt
under_below n lim (x ∷ l) h e =
    let t = both (ltb x n) (all_under n l) e in
    (omega (arith, ltb-true x n t.0), under_below n lim l h t.1)

-- the words of node i, cut out of all of them
words_of :
    (ws : List ℕ) (i : ℕ) → i * node_words + node_words ≤ length ws →
    take node_words (drop (i * node_words) ws) ≡ field_of ws i ∷ value_of ws i ∷ child_of ws i ∷ []
unfolding tabulate
words_of ws i h =
    let part = take node_words (drop (i * node_words) ws) in
    let at : (j : ℕ) → j < node_words → get_or part j 0 ≡ node_word ws i j =
    (λ j l. get_or-take node_words (drop (i * node_words) ws) j 0 l ∙ get_or-drop (i * node_words) ws j 0) in
    cells node_words part (simp (length-take, length-drop) (omega arith)) ∙
    rw (at 0 (omega arith), at 1 (omega arith), at 2 (omega arith))

-- the words of the first i nodes, and those of the next
pub words_step :
    (ws : List ℕ) (i : ℕ) → i * node_words + node_words ≤ length ws →
    take (i * node_words) ws ++ (field_of ws i ∷ value_of ws i ∷ child_of ws i ∷ []) ≡ take ((i + 1) * node_words) ws
words_step ws i h =
    let e : i * node_words + node_words ≡ (i + 1) * node_words = omega arith in
    rw (← words_of ws i h) (sym (take-add (i * node_words) node_words ws)) ∙ ap (λ (k : ℕ). take k ws) e

module _ {n : ℕ} {ws es : List ℕ} (g : Spelling n ws es) where
  -- the sizes hold
  pub sizes_of : Sizes ws es
  sizes_of = (sizes_fine_iff ws es).0 g.sizes

  -- the words are those of whole nodes
  pub whole_nodes : length ws ≡ node_count ws * node_words
  whole_nodes = omega (arith, sizes_of.whole)

  -- there is a node
  pub one_node : 0 < node_count ws
  one_node = omega (arith, sizes_of.some_node, sizes_of.whole)

  -- there are not too many nodes
  pub few_nodes : node_count ws ≤ most_nodes
  few_nodes = omega (arith, sizes_of.few_nodes)

  -- every node can be written
  pub writable_of : (i : ℕ) → i < node_count ws → Writable ws es i
  writable_of i h =
      record {
        there = h;
        few = few_nodes;
        part = λ l. (g.spelt.leaf i h l).within;
      }

  -- the entries of a leaf are below the number of rules
  pub entries_under : (i : ℕ) → SpeltLeaf n ws es i → all_under n (entries ws es i) ≡ true
  entries_under i s = (all_under_iff_has n (entries ws es i)).1 s.rules

  -- there are as many entries as a leaf's count says
  pub entries_count : (i : ℕ) → SpeltLeaf n ws es i → length (entries ws es i) ≡ count_of ws i
  unfolding entries
  entries_count i s = simp (length-take, length-drop) (omega (arith, s.within))

  module _ (b : EachUnder (2 ^ 32) ws) (i : ℕ) (h : i < node_count ws) where
    -- the numbers of a cut line are of 32 bits
    pub cut_below : EachUnder (2 ^ 32) (cut_numbers ws i)
    cut_below =
        let at : (j : ℕ) → node_word ws i j < 2 ^ 32 =
        (λ j. below_at (2 ^ 32) ws (i * node_words + j) (omega arith) b) in
        (omega (arith, few_nodes), (at 0, (at 1, (at 2, tt))))

    -- the numbers of a leaf line are of 32 bits
    pub leaf_below : SpeltLeaf n ws es i → EachUnder (2 ^ 32) (leaf_numbers ws es i)
    leaf_below s = (
      omega (arith, few_nodes),
      (
        below_at (2 ^ 32) ws (i * node_words + 2) (omega arith) b,
        under_below n (2 ^ 32) (entries ws es i) (omega (arith, g.few)) (entries_under i s),
      ),
    )
