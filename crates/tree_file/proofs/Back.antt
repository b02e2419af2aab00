-- What is written reads back to the same words.
use Prim.Native.Nat.{ℕ, suc, ◌+◌, ◌*◌, ◌≤◌, ◌<◌, ◌^◌}
use native.Mathlib.Omega.{arith}
use native.Mathlib.Nat.{add-zero}
use mathlib.Core.Bool.{true}
use mathlib.Core.Path.{◌≡◌, refl, sym, ap, ◌∙◌}
use mathlib.Core.Option.{none, some}
use mathlib.Core.List.{List, [], ◌∷◌, ◌++◌}
use lib.ListN.{length, take, length-take, length-replicate}
use lib.Seq.{take-add, take_all}
use borrow.Author.Tests.{lt-ltb, le-ltb, le-leb, eq-eqb}
use Rattle.facts.proofs.Bools.{join}
use Rattle.facts.proofs.Cases.{WithinOrOver, within_or_over, at_most, over}
use Rattle.rules.specs.Words.{most_rules}
use Rattle.trees.specs.Words.{node_words, most_nodes, most_pool, leaf_mark, node_count, field_of, child_of, start_of}
use Rattle.trees.specs.Words.{count_of, entries}
use Rattle.trees.specs.Spelt.{counts_below, SpeltLeaf}
use Rattle.trees.proofs.LeafSpelling.{counts_step, cut_counts_none, leaf_counts}
use Rattle.text.specs.Words.{tab, cut_word, leaf_word, three_tabs, four_tabs}
use Rattle.text.specs.Numbers.{is_digit}
use Rattle.text.specs.Line.{read_word, read_line, read_counted, print_line, EachUnder}
use Rattle.text.specs.EndLines.{end_line}
use Rattle.text.proofs.Lines.{line_back}
use Rattle.text.proofs.Counted.{line_counted}
use Rattle.text.proofs.Files.{end_back}
use Rattle.tree_file.specs.TreeText.{tree, State, start, within, over, counts_fit, cut_fits, leaf_fits, step}
use Rattle.tree_file.specs.TreeLines.{cut_numbers, leaf_numbers, leaf_marks, node_line, first_line, Spelling}
use Rattle.tree_file.proofs.Growing.{cut_line, leaf_line}
use Rattle.tree_file.proofs.Spelling.{tabs_part, words_step, sizes_of, whole_nodes, one_node}
use Rattle.tree_file.proofs.Spelling.{few_nodes, entries_under, entries_count, cut_below, leaf_below}

-- a leaf line is no cut line
leaf_not_cut : (ms vs : List ℕ) → read_line cut_word four_tabs (print_line leaf_word ms vs) ≡ none
unfolding read_line print_line read_word
leaf_not_cut ms vs = refl

module _ {n : ℕ} {ws es : List ℕ} (g : Spelling n ws es) (b : EachUnder (2 ^ 32) ws) where
  -- the state after i nodes
  abbrev pub after : ℕ → State
  after i = within n (node_count ws) (length es) i (take (i * node_words) ws) (take (counts_below ws i) es)

  -- the first line leads to the nodes
  pub first_step :
      (word : List ℕ) → step (start word) (first_line word n (node_count ws) (length es)) ≡ some (after 0)
  unfolding step counts_fit counts_below is_digit
  first_step word =
      let few = sizes_of g in
      let read : read_line word three_tabs (first_line word n (node_count ws) (length es)) ≡
      some (n ∷ node_count ws ∷ length es ∷ []) =
      line_back word three_tabs (n ∷ node_count ws ∷ length es ∷ []) refl refl
      (omega (arith, g.few), (omega (arith, few_nodes g), (omega (arith, few.short_pool), tt))) in
      rw (
        read,
        le-leb n most_rules g.few,
        lt-ltb 0 (node_count ws) (one_node g),
        le-leb (node_count ws) most_nodes (few_nodes g),
        le-leb (length es) most_pool few.short_pool,
      )

  -- the end line leads to the end
  pub end_step : step (after (node_count ws)) (end_line (node_count ws + 1)) ≡ some (over (tree n ws es))
  unfolding step
  end_step =
      let m = node_count ws in
      rw (
        le-ltb m m (omega arith),
        take_all (m * node_words) ws (omega (arith, whole_nodes g)),
        take_all (counts_below ws m) es (omega (arith, g.spelt.total)),
      )
      (end_back (m + 1) (over (tree n ws es)) (omega (arith, few_nodes g)) (eq-eqb (length es) (length es) refl))

  module _ (i : ℕ) (h : i < node_count ws) where
    -- a cut's line leads to the next node
    cut_step : field_of ws i < leaf_mark → step (after i) (node_line ws es i) ≡ some (after (i + 1))
    unfolding step cut_fits is_digit
    cut_step l =
        let m = node_count ws in
        let read = line_back cut_word four_tabs (cut_numbers ws i) refl refl (cut_below g b i h) in
        let same : counts_below ws (i + 1) ≡ counts_below ws i =
        counts_step ws i ∙ rw (← cut_counts_none ws i l) (add-zero (counts_below ws i)) in
        rw (
          cut_line ws es i l,
          lt-ltb i m h,
          read,
          eq-eqb i i refl,
          lt-ltb (field_of ws i) leaf_mark l,
          lt-ltb (child_of ws i) m (g.spelt.child i h l),
          words_step ws i (omega (arith, whole_nodes g)),
          same,
        )

    module _ (l : leaf_mark ≤ field_of ws i) where
      s : SpeltLeaf n ws es i
      s = g.spelt.leaf i h l

      -- the entries before this leaf are as many as its start says
      before : length (take (counts_below ws i) es) ≡ start_of ws i
      before = simp length-take (omega (arith, s.start, s.within))

      -- the words of a leaf
      leaf_words :
          take (i * node_words) ws ++ (leaf_mark ∷ length (take (counts_below ws i) es) ∷ count_of ws i ∷ []) ≡
          take ((i + 1) * node_words) ws
      leaf_words =
          let mark : field_of ws i ≡ leaf_mark = omega (arith, g.spelt.first i h) in
          rw (before, ← mark) (words_step ws i (omega (arith, whole_nodes g)))

      -- the entries up to this leaf, and its own
      leaf_entries : take (counts_below ws i) es ++ entries ws es i ≡ take (counts_below ws (i + 1)) es
      unfolding entries
      leaf_entries =
          rw (counts_step ws i, ← leaf_counts ws i l, s.start) (sym (take-add (counts_below ws i) (count_of ws i) es))

      -- a leaf's line reads to its numbers
      leaf_read : read_counted leaf_word (node_line ws es i) ≡ some (leaf_numbers ws es i)
      leaf_read =
          let c = count_of ws i in
          let long : length (leaf_numbers ws es i) ≡ length (leaf_marks c) =
          ap (λ (k : ℕ). suc (suc k)) (entries_count g i s ∙ sym (length-replicate c tab)) in
          line_counted leaf_word (node_line ws es i) (leaf_numbers ws es i)
          (rw (leaf_line ws es i l)
          (line_back leaf_word (leaf_marks c) (leaf_numbers ws es i) (tabs_part c) long (leaf_below g b i h s)))

      -- a leaf's numbers pass
      leaf_test : leaf_fits n (length es) i (length (take (counts_below ws i) es)) i (count_of ws i) ≡ true
      unfolding leaf_fits
      leaf_test =
          join (join (eq-eqb i i refl) (le-leb (count_of ws i) n s.count))
          (le-leb (length (take (counts_below ws i) es) + count_of ws i) (length es) (rw before s.within))

      -- a leaf's line leads to the next node
      leaf_step : step (after i) (node_line ws es i) ≡ some (after (i + 1))
      unfolding step
      leaf_step =
          let no_cut : read_line cut_word four_tabs (node_line ws es i) ≡ none =
          rw (leaf_line ws es i l) (leaf_not_cut (leaf_marks (count_of ws i)) (leaf_numbers ws es i)) in
          rw (
            lt-ltb i (node_count ws) h,
            no_cut,
            leaf_read,
            leaf_test,
            entries_under g i s,
            leaf_words,
            leaf_entries,
          )

    -- a node's line leads to the next node
    pub node_step : step (after i) (node_line ws es i) ≡ some (after (i + 1))
    node_step = go (within_or_over leaf_mark (field_of ws i))
      where
        go : WithinOrOver leaf_mark (field_of ws i) → step (after i) (node_line ws es i) ≡ some (after (i + 1))
        go (at_most l) = leaf_step l
        go (over l) = cut_step l
