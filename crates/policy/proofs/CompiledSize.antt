-- The text that a list is compiled into is no longer than a file may be, nor is that of a part: a cut's line takes at
-- most 27 bytes, a leaf's line 14 and 4 for each entry, and a tree has one leaf, or part that is not begun, more than
-- cuts.
--   text_below nodes pool i   the bytes of the lines of the first i nodes
use Prim.Native.Nat.{ℕ, ◌+◌, ◌*◌, ◌^◌, ◌≤◌, ◌<◌}
use native.Mathlib.Omega.{arith}
use mathlib.Core.Bool.{Bool}
use mathlib.Core.Path.{◌≡◌, refl, sym, ap, ◌∙◌}
use mathlib.Core.List.{List, [], ◌∷◌}
use lib.ListN.{length, replicate, length-append}
use Rattle.facts.proofs.Under.{all_under_iff_at, all_under_iff_has}
use Rattle.refusals.specs.Verdict.{Verdict}
use Rattle.refusals.specs.Verdict.{Fine, Refused}
use Rattle.refusals.proofs.Order.{then_fine, then_refused, room_fine_iff}
use Rattle.fields.specs.Boxes.{root_box}
use Rattle.rules.specs.Words.{most_rules, rule_count}
use Rattle.trees.specs.Words.{most_nodes, node_count}
use Rattle.trees.proofs.Sizes.{sizes_fine_iff}
use Rattle.tree_check.specs.Whole.{most_cuts}
use Rattle.built.specs.Trees.{Tree, bud, cut}
use Rattle.built.specs.Layout.{size, pooled, right_child, laid}
use Rattle.built.proofs.Laying.{size_bud, size_leaf, size_cut, pooled_leaf, length_pooled}
use Rattle.built.proofs.Laying.{right_child_below, length_laid}
use Rattle.built.proofs.Lying.{Lies, a_bud, a_leaf, a_cut}
use Rattle.built.proofs.Covering.{ListsRules, Covers, by_bud, by_leaf, by_cut}
use Rattle.built.proofs.Covering.{covers_full, built_covers, built_lies}
use Rattle.text.specs.Words.{tab, tree_word, cut_word, leaf_word, four_tabs}
use Rattle.text.specs.Line.{print_fields, print_line, EachUnder}
use Rattle.text.specs.Text.{unlines}
use Rattle.text.proofs.Below.{below_of}
use Rattle.text.proofs.Sizes.{digits_few, fields_few}
use Rattle.text.proofs.Files.{text_none, text_more}
use Rattle.tree_file.specs.TreeLines.{leaf_marks, node_line, node_lines, file_text, Spelling}
use Rattle.tree_file.proofs.Growing.{cut_line, leaf_line}
use Rattle.tree_file.proofs.Writing.{text_parts}
use Rattle.policy.specs.Files.{most_file}
use Rattle.policy.specs.Compiled.{largest_build, built_text, compile_verdict}
use Rattle.policy.proofs.BuiltWords.{InRoot, root_in_root, left_in_root, right_in_root, value_under}
use Rattle.policy.proofs.Compiling.{built_spelling}
use Rattle.policy.proofs.Buds.{buds, buds_none}

-- a cut's line
cut_few :
    (i f v c : ℕ) → i < 10 ^ 4 → f < 10 → v < 10 ^ 10 → c < 10 ^ 4 →
    length (print_line cut_word four_tabs (i ∷ f ∷ v ∷ c ∷ [])) ≤ 26
unfolding print_line print_fields
cut_few i f v c hi hf hv hc =
    simp length-append
    (omega (arith, digits_few 3 i hi, digits_few 0 f hf, digits_few 9 v hv, digits_few 3 c hc))

-- a leaf's line
leaf_few :
    (i c : ℕ) (es : List ℕ) → i < 10 ^ 4 → c < 10 ^ 3 → EachUnder (10 ^ 3) es →
    length (print_line leaf_word (leaf_marks c) (i ∷ c ∷ es)) ≤ 13 + length es * 4
unfolding print_line print_fields
leaf_few i c es hi hc h =
    simp length-append
    (omega (arith, digits_few 3 i hi, digits_few 2 c hc, fields_few 2 (replicate c tab) es h))

abbrev text_below : List ℕ → List ℕ → ℕ → ℕ
text_below nodes pool i = length (unlines (node_lines nodes pool i))

module _ (rs nodes pool : List ℕ) (few : rule_count rs ≤ most_rules) where
  -- one line more
  below_more :
      (i m : ℕ) → length (node_line nodes pool i) ≤ m → text_below nodes pool (i + 1) ≤ text_below nodes pool i + m + 1
  below_more i m h =
      let e = ap length (text_more (node_line nodes pool) i) in
      omega (arith, simp length-append at e)

  entries_under : {b : List (List ℕ)} {l : List ℕ} → ListsRules rs b l → EachUnder (10 ^ 3) l
  entries_under {l = l} w =
      let under = (all_under_iff_has most_rules l).1 (λ y m. omega (arith, w.rules y m)) in
      below_of (10 ^ 3) l (λ i h. omega (arith, (all_under_iff_at most_rules l).0 under i h))

  -- the lines of a tree that covers the list, or of a part of it
  tree_few :
      {far : Bool} {k i s : ℕ} {b : List (List ℕ)} {t : Tree} → Covers far rs k b t → InRoot b →
      Lies nodes pool t i s → i + size t ≤ most_nodes →
      2 * text_below nodes pool (i + size t) + 13 ≤
      2 * text_below nodes pool i + 41 * size t + 8 * length (pooled t) + 26 * buds t
  unfolding buds
  tree_few (by_bud e) r (a_bud {i = i} n) m =
      let none : i + size bud ≡ i = omega (arith, size_bud) in rw none (omega arith)
  tree_few (by_leaf {l = l} w) r (a_leaf {i = i} there f s c u e) m =
      let one = size_leaf l in
      let line : length (node_line nodes pool i) ≤ 13 + length l * 4 =
      rw (leaf_line nodes pool i (omega arith), c, e)
      (leaf_few i (length l) l (omega arith) (omega (arith, w.few)) (entries_under w)) in
      rw (one, pooled_leaf l) (omega (arith, below_more i (13 + length l * 4) line))
  tree_few (by_cut {f = f} {v = v} {x = x} {y = y} u d p q) r (a_cut {i = i} there ef ev ec left right) m =
      let nodes_in = size_cut f v x y in
      let entries_in = length_pooled f v x y in
      let child = right_child_below y (i + 1 + size x) (10 ^ 4) (omega arith) (omega arith) in
      let line : length (node_line nodes pool i) ≤ 26 =
      rw (cut_line nodes pool i (omega arith), ef, ev, ec)
      (cut_few i f v (right_child y (i + 1 + size x)) (omega arith) (omega arith) (omega (arith, value_under v r u d))
      child) in
      let a = tree_few p (left_in_root v r u d) left (omega arith) in
      let b = tree_few q (right_in_root v r u d) right (omega arith) in
      let behind : i + size (cut f v x y) ≡ i + 1 + size x + size y = omega arith in
      rw behind (omega (arith, below_more i 26 line))

-- a file whose first word has four letters, of a tree that covers the list so far, is no longer than a file may be
pub file_short :
    (rs word : List ℕ) {far : Bool} {t : Tree} → length word ≡ 4 → Covers far rs most_cuts root_box t →
    Lies (laid t 0 0) (pooled t) t 0 0 → buds t ≤ most_cuts + 1 → Spelling (rule_count rs) (laid t 0 0) (pooled t) →
    length (file_text word (rule_count rs) (laid t 0 0) (pooled t)) ≤ most_file
unfolding print_line print_fields
file_short rs word {t = t} four c w few_buds g =
    let nodes = laid t 0 0 in
    let pool = pooled t in
    let s = (sizes_fine_iff nodes pool).0 g.sizes in
    let n = node_count nodes in
    let laid_words = length_laid t 0 0 in
    let lines = tree_few rs nodes pool g.few c root_in_root w (omega (arith, s.few_nodes)) in
    let none = ap length (text_none (node_line nodes pool)) in
    let same : n ≡ 0 + size t = omega arith in
    let parts = text_parts word (rule_count rs) nodes pool _ (sym same) in
    rw (sym parts)
    (simp length-append
    (omega (
      arith,
      lines,
      none,
      s.few_nodes,
      s.short_pool,
      digits_few 2 (rule_count rs) (omega (arith, g.few)),
      digits_few 3 n (omega (arith, s.few_nodes)),
      digits_few 3 (length pool) (omega (arith, s.short_pool)),
      digits_few 3 (n + 1) (omega (arith, s.few_nodes)),
    )))

module _ (rs : List ℕ) where
  -- where the build is fine, the text is no longer than a file may be
  pub text_short : largest_build rs ≡ Fine → length (built_text rs) ≤ most_file
  unfolding built_text
  text_short e =
      let none = buds_none (covers_full (built_covers rs)) in
      file_short rs tree_word refl (built_covers rs) (built_lies rs) (omega (arith, none)) (built_spelling rs e)

  -- so where there is room for a file, nothing is refused but what the build refuses
  pub room_enough : (room : ℕ) → most_file ≤ room → compile_verdict rs room ≡ largest_build rs
  room_enough room h = go (largest_build rs) refl
    where
      go : (v : Verdict) → largest_build rs ≡ v → compile_verdict rs room ≡ largest_build rs
      go Fine e =
          then_fine _ e ∙ (room_fine_iff (length (built_text rs)) room).1 (omega (arith, text_short e)) ∙ sym e
      go (Refused why) e = then_refused _ e ∙ sym e
