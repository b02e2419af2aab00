-- Within the nodes: what the lines that were read say of the words and entries so far.
--   NodesSoFar word n m p i ws es t    the bytes t are the first line, which begins with the word, and the lines of the
--                                      first i nodes of these words and entries, which are spelt so far
use Prim.Native.Nat.{ℕ, ◌+◌, ◌*◌, ◌≤◌, ◌<◌, ◌^◌}
use native.Mathlib.Omega.{arith}
use mathlib.Core.Bool.{true}
use mathlib.Core.Path.{◌≡◌, sym, ap, ◌∙◌}
use mathlib.Core.List.{List, [], ◌∷◌, ◌++◌}
use lib.ListN.{length, length-append}
use borrow.Author.Count.{below_more}
use borrow.Author.Tests.{ltb-true, leb-true}
use Rattle.facts.proofs.Bools.{both}
use Rattle.rules.specs.Words.{most_rules}
use Rattle.trees.specs.Words.{node_words, most_nodes, most_pool}
use Rattle.trees.specs.Spelt.{leaf_count, counts_below}
use Rattle.trees.proofs.LeafSpelling.{counts_step}
use Rattle.text.specs.Line.{ended, EachUnder}
use Rattle.text.specs.Text.{unlines}
use Rattle.text.proofs.Below.{below_append}
use Rattle.text.proofs.Texts.{unlines_more}
use Rattle.text.proofs.Files.{lines_more}
use Rattle.tree_file.specs.TreeText.{counts_fit}
use Rattle.tree_file.specs.TreeLines.{first_line, node_line, node_lines}
use Rattle.tree_file.proofs.Growing.{SpeltAt, counts_kept, spelt_kept, lines_kept}

-- ---- the limits

pub record Few (n m p : ℕ) : Type 0 where
  pub rules : n ≤ most_rules
  pub one : 0 < m
  pub nodes : m ≤ most_nodes
  pub pool : p ≤ most_pool

-- counts that pass obey the limits
pub few_of : (n m p : ℕ) → counts_fit n m p ≡ true → Few n m p
unfolding counts_fit
few_of n m p e =
    let t = both _ _ e in
    let u = both _ _ t.0 in
    let v = both _ _ u.0 in
    record {
      rules = leb-true n most_rules v.0;
      one = ltb-true 0 m v.1;
      nodes = leb-true m most_nodes u.1;
      pool = leb-true p most_pool t.1;
    }

-- ---- one node more

pub record NodesSoFar (word : List ℕ) (n m p i : ℕ) (ws es t : List ℕ) : Type 0 where
  pub text : t ≡ unlines (first_line word n m p ∷ node_lines ws es i)
  pub size : length ws ≡ i * node_words
  pub limits : counts_fit n m p ≡ true
  pub most : i ≤ m
  pub room : length es ≤ p
  pub below : EachUnder (2 ^ 32) ws
  pub each : (j : ℕ) → j < i → SpeltAt n m ws es j
  pub total : counts_below ws i ≡ length es

-- a node with its words, its entries and its line
pub record NodeAdded (n m p i : ℕ) (ws es xs ys l : List ℕ) : Type 0 where
  pub size : length xs ≡ node_words
  pub line : l ≡ node_line (ws ++ xs) (es ++ ys) i
  pub spelt : SpeltAt n m (ws ++ xs) (es ++ ys) i
  pub count : leaf_count (ws ++ xs) i ≡ length ys
  pub below : EachUnder (2 ^ 32) xs
  pub room : length es + length ys ≤ p

module _ {word : List ℕ} {n m p i : ℕ} {ws es xs ys t l : List ℕ} (w : NodesSoFar word n m p i ws es t) (h : i < m)
    (x : NodeAdded n m p i ws es xs ys l) where
  -- the line of this node follows those before it
  text_more : t ++ ended l ≡ unlines (first_line word n m p ∷ node_lines (ws ++ xs) (es ++ ys) (i + 1))
  text_more =
      let kept = lines_kept ws es xs ys i (omega (arith, w.size)) w.each in
      let grown : node_lines ws es i ++ (l ∷ []) ≡ node_lines (ws ++ xs) (es ++ ys) (i + 1) =
      rw (lines_more (node_line (ws ++ xs) (es ++ ys)) i, kept, ← x.line) in
      ap (λ (u : List ℕ). u ++ ended l) w.text ∙
      sym (unlines_more (first_line word n m p ∷ node_lines ws es i) l) ∙
      ap (λ (ls : List (List ℕ)). unlines (first_line word n m p ∷ ls)) grown

  -- the nodes before it stay spelt, and so is this one
  each_more : (j : ℕ) → j < i + 1 → SpeltAt n m (ws ++ xs) (es ++ ys) j
  each_more =
      below_more (λ (j : ℕ). SpeltAt n m (ws ++ xs) (es ++ ys) j) i
      (λ j q. spelt_kept ws es xs ys j (omega (arith, w.size)) (w.each j q)) x.spelt

  -- with one node more the lines say as much of the words and entries that it adds
  pub so_far_more : NodesSoFar word n m p (i + 1) (ws ++ xs) (es ++ ys) (t ++ ended l)
  so_far_more =
      record {
        text = text_more;
        size = length-append ws xs ∙ omega (arith, w.size, x.size);
        limits = w.limits;
        most = omega arith;
        room = rw (length-append es ys) x.room;
        below = below_append (2 ^ 32) ws xs w.below x.below;
        each = each_more;
        total =
            counts_step (ws ++ xs) i ∙
            rw (counts_kept ws xs i (omega (arith, w.size)), w.total, x.count) (sym (length-append es ys));
      }
