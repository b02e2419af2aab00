-- The text of a tree that is spelt, without its first word, is far shorter than the places of a text can count. The
-- bounds are crude.
--   node_most     more bytes than a node's line takes
use Prim.Native.Nat.{ℕ, ◌+◌, ◌≤◌, ◌<◌, ◌^◌}
use native.Mathlib.Omega.{arith}
use mathlib.Core.List.{List, [], ◌∷◌}
use lib.ListN.{length, length-append}
use Rattle.facts.proofs.Cases.{WithinOrOver, within_or_over, at_most, over}
use Rattle.trees.specs.Words.{leaf_mark, node_count, field_of, count_of}
use Rattle.text.specs.Words.{cut_word, leaf_word, end_word, one_tab, three_tabs, four_tabs}
use Rattle.text.specs.Line.{ended, EachUnder}
use Rattle.text.specs.Text.{unlines}
use Rattle.text.specs.EndLines.{end_line}
use Rattle.text.proofs.Sizes.{line_size}
use Rattle.text.proofs.Texts.{unlines_more}
use Rattle.text.proofs.Files.{records_size}
use Rattle.tree_file.specs.TreeLines.{cut_numbers, leaf_numbers, leaf_marks, node_line, node_lines, first_line}
use Rattle.tree_file.specs.TreeLines.{file_text, Spelling}
use Rattle.tree_file.proofs.Growing.{cut_line, leaf_line}
use Rattle.tree_file.proofs.Spelling.{sizes_of, few_nodes, entries_count, cut_below, leaf_below}

abbrev node_most : ℕ
node_most = 2 ^ 44

module _ {n : ℕ} {ws es : List ℕ} (g : Spelling n ws es) (b : EachUnder (2 ^ 32) ws) where
  -- a node's line takes fewer than so many bytes
  node_size : (i : ℕ) → i < node_count ws → length (node_line ws es i) < node_most
  node_size i h = go (within_or_over leaf_mark (field_of ws i))
    where
      go : WithinOrOver leaf_mark (field_of ws i) → length (node_line ws es i) < node_most
      go (at_most l) =
          let s = g.spelt.leaf i h l in
          rw (leaf_line ws es i l)
          (omega (
            arith,
            line_size leaf_word (leaf_marks (count_of ws i)) (leaf_numbers ws es i) (leaf_below g b i h s),
            entries_count g i s,
            s.count,
            g.few,
          ))
      go (over l) =
          rw (cut_line ws es i l) (omega (arith, line_size cut_word four_tabs (cut_numbers ws i) (cut_below g b i h)))

  -- the text of a tree that is spelt, the words of its nodes being of 32 bits, has fewer than 2 ^ 62 bytes behind its
  -- first word
  pub text_fits : (word : List ℕ) → length (file_text word n ws es) < length word + 2 ^ 62
  unfolding file_text unlines
  text_fits word =
      let m = node_count ws in
      let first =
      line_size word three_tabs (n ∷ m ∷ length es ∷ [])
      (omega (arith, g.few), (omega (arith, few_nodes g), (omega (arith, (sizes_of g).short_pool), tt))) in
      let end = line_size end_word one_tab ((m + 1) ∷ []) (omega (arith, few_nodes g), tt) in
      let each : (i : ℕ) → i < m → length (ended (node_line ws es i)) ≤ node_most = λ i h.
      simp length-append (omega (arith, node_size i h)) in
      let nodes = records_size (node_line ws es) node_most m each m (omega arith) in
      rw (unlines_more (first_line word n m (length es) ∷ node_lines ws es m) (end_line (m + 1)))
      (simp length-append (omega (arith, first, end, nodes, few_nodes g)))
