-- Words and entries that grow: a node that is there stays as it is when others follow it.
--   SpeltAt n m ws es i    node i of these words, among m nodes and n rules, is spelt
use Prim.Native.Nat.{ℕ, zero, suc, ◌+◌, ◌*◌, ◌≤◌, ◌<◌}
use native.Mathlib.Omega.{arith}
use mathlib.Core.Path.{◌≡◌, refl, sym, ◌∙◌}
use mathlib.Core.List.{List, ◌++◌}
use lib.ListN.{length, get_or, take, drop, length-append, length-drop, get_or-append}
use lib.Seq.{get_or-append-add, take-append-le, drop-append-le}
use borrow.Author.Tests.{lt-ltb, le-ltb}
use Rattle.facts.proofs.Cases.{WithinOrOver, within_or_over, at_most, over}
use Rattle.text.specs.Words.{cut_word, leaf_word, four_tabs}
use Rattle.text.specs.Line.{print_line}
use Rattle.text.proofs.Files.{lines_same}
use Rattle.trees.specs.Words.{node_words, leaf_mark, node_word, field_of, child_of, start_of, count_of, entries}
use Rattle.trees.specs.Spelt.{leaf_count, counts_below, SpeltLeaf}
use Rattle.tree_file.specs.TreeLines.{cut_numbers, leaf_numbers, leaf_marks, node_line, node_lines}

-- ---- words

-- the words of a node that is there stay
pub word_kept :
    (ws xs : List ℕ) (i j : ℕ) → i * node_words + j < length ws → node_word (ws ++ xs) i j ≡ node_word ws i j
word_kept ws xs i j h = get_or-append ws xs 0 (i * node_words + j) h

-- the words that follow i nodes are those of node i
pub word_last :
    (ws xs : List ℕ) (i j : ℕ) → length ws ≡ i * node_words → node_word (ws ++ xs) i j ≡ get_or xs j 0
word_last ws xs i j e = rw (← e) (get_or-append-add ws xs j 0)

-- the count of a node that is there stays
count_kept : (ws xs : List ℕ) (i : ℕ) → i * node_words + 2 < length ws → leaf_count (ws ++ xs) i ≡ leaf_count ws i
unfolding leaf_count
count_kept ws xs i h = rw (word_kept ws xs i 0 (omega arith), word_kept ws xs i 2 h)

-- the counts of the nodes that are there stay
pub counts_kept : (ws xs : List ℕ) (i : ℕ) → i * node_words ≤ length ws → counts_below (ws ++ xs) i ≡ counts_below ws i
unfolding counts_below
counts_kept ws xs zero h = refl
counts_kept ws xs (suc i) h = rw (counts_kept ws xs i (omega arith), count_kept ws xs i (omega arith))

-- entries that are there stay
pub part_kept :
    (es ys : List ℕ) (s k : ℕ) → s + k ≤ length es → take k (drop s (es ++ ys)) ≡ take k (drop s es)
part_kept es ys s k h =
    rw (drop-append-le s es ys (omega arith)) (take-append-le k (drop s es) ys (simp length-drop (omega arith)))

-- ---- the line of a node, by its kind

-- the line of a cut
pub cut_line :
    (ws es : List ℕ) (i : ℕ) → field_of ws i < leaf_mark → node_line ws es i ≡ print_line cut_word four_tabs (cut_numbers ws i)
unfolding node_line
cut_line ws es i l = rw (lt-ltb (field_of ws i) leaf_mark l)

-- the line of a leaf
pub leaf_line :
    (ws es : List ℕ) (i : ℕ) → leaf_mark ≤ field_of ws i →
    node_line ws es i ≡ print_line leaf_word (leaf_marks (count_of ws i)) (leaf_numbers ws es i)
unfolding node_line
leaf_line ws es i l = rw (le-ltb (field_of ws i) leaf_mark l)

-- ---- spelt nodes

pub record SpeltAt (n m : ℕ) (ws es : List ℕ) (i : ℕ) : Type 0 where
  pub first : field_of ws i ≤ leaf_mark
  pub child : field_of ws i < leaf_mark → child_of ws i < m
  pub leaf : leaf_mark ≤ field_of ws i → SpeltLeaf n ws es i

module _ (ws es xs ys : List ℕ) (i : ℕ) (h : i * node_words + 2 < length ws) where
  -- the entries of a leaf that is spelt stay
  entries_kept : {n : ℕ} → SpeltLeaf n ws es i → entries (ws ++ xs) (es ++ ys) i ≡ entries ws es i
  unfolding entries
  entries_kept s =
      rw (word_kept ws xs i 1 (omega arith), word_kept ws xs i 2 h)
      (part_kept es ys (start_of ws i) (count_of ws i) s.within)

  -- a leaf that is spelt stays so
  leaf_kept : {n : ℕ} → SpeltLeaf n ws es i → SpeltLeaf n (ws ++ xs) (es ++ ys) i
  leaf_kept s =
      record {
        start = word_kept ws xs i 1 (omega arith) ∙ s.start ∙ sym (counts_kept ws xs i (omega arith));
        count = rw (word_kept ws xs i 2 h) s.count;
        within =
            rw (word_kept ws xs i 1 (omega arith), word_kept ws xs i 2 h, length-append es ys)
            (omega (arith, s.within));
        rules = λ y. rw (entries_kept s) (s.rules y);
      }

  -- a node that is spelt stays so
  pub spelt_kept : {n m : ℕ} → SpeltAt n m ws es i → SpeltAt n m (ws ++ xs) (es ++ ys) i
  spelt_kept {n} {m} s =
      let f = word_kept ws xs i 0 (omega arith) in
      record {
        first = rw f s.first;
        child = λ l. rw (word_kept ws xs i 2 h) (s.child (rw f at l));
        leaf = λ l. leaf_kept (s.leaf (rw f at l));
      }

  -- the line of a node that is spelt stays
  line_kept : {n m : ℕ} → SpeltAt n m ws es i → node_line (ws ++ xs) (es ++ ys) i ≡ node_line ws es i
  line_kept s = go (within_or_over leaf_mark (field_of ws i))
    where
      f : field_of (ws ++ xs) i ≡ field_of ws i
      f = word_kept ws xs i 0 (omega arith)

      go : WithinOrOver leaf_mark (field_of ws i) → node_line (ws ++ xs) (es ++ ys) i ≡ node_line ws es i
      go (at_most l) =
          leaf_line (ws ++ xs) (es ++ ys) i (rw f l) ∙
          rw (word_kept ws xs i 2 h, entries_kept (s.leaf l)) (sym (leaf_line ws es i l))
      go (over l) =
          cut_line (ws ++ xs) (es ++ ys) i (rw f l) ∙
          rw (f, word_kept ws xs i 1 (omega arith), word_kept ws xs i 2 h) (sym (cut_line ws es i l))

-- the lines of nodes that are spelt stay
pub lines_kept :
    (ws es xs ys : List ℕ) (i : ℕ) {n m : ℕ} → i * node_words ≤ length ws →
    ((j : ℕ) → j < i → SpeltAt n m ws es j) → node_lines (ws ++ xs) (es ++ ys) i ≡ node_lines ws es i
lines_kept ws es xs ys i h each =
    lines_same (node_line (ws ++ xs) (es ++ ys)) (node_line ws es) i
    (λ j b. line_kept ws es xs ys j (omega arith) (each j b))
