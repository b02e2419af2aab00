-- What reads well is what would be written, and is spelt.
use Prim.Native.Nat.{ℕ, ◌+◌, ◌≤◌}
use native.Mathlib.Omega.{arith}
use mathlib.Core.Bool.{Bool, true, false, cond}
use mathlib.Core.Path.{◌≡◌, refl, sym, ap, subst, ◌∙◌}
use mathlib.Core.Option.{some}
use mathlib.Core.List.{List, ◌∷◌, ◌++◌}
use lib.ListN.{length}
use lib.Dec.{ltb, eqb}
use borrow.Author.Tests.{ltb-true, ltb-false, eqb-true}
use Rattle.trees.specs.Words.{node_count}
use Rattle.trees.specs.Spelt.{counts_below, Spelt}
use Rattle.trees.proofs.Sizes.{Sizes, sizes_fine_iff}
use Rattle.text.specs.Words.{cut_word, leaf_word, end_word, one_tab, three_tabs, four_tabs}
use Rattle.text.specs.Line.{read_line, read_counted, ended}
use Rattle.text.specs.Text.{good}
use Rattle.text.specs.EndLines.{on_end, end_line}
use Rattle.text.proofs.Lines.{none_some}
use Rattle.text.proofs.Texts.{unlines_more}
use Rattle.text.proofs.Files.{end_exact, led_to}
use Rattle.tree_file.specs.TreeText.{Tree, tree, State, start, within, over}
use Rattle.tree_file.specs.TreeText.{on_node, step, finish, file_in}
use Rattle.tree_file.specs.TreeLines.{first_line, node_lines, file_text, Spelling}
use Rattle.tree_file.proofs.SoFar.{NodesSoFar, few_of}
use Rattle.tree_file.proofs.Leads.{TextOf, SaysSoFar, first_leads, node_leads}

module _ {word : List ℕ} {n m p i : ℕ} {ws es t : List ℕ} (w : NodesSoFar word n m p i ws es t) (l : List ℕ)
    (st : State) where
  -- ---- the end line leads to the end

  module _ (h : m ≤ i) (last : length es ≡ p) where
    nodes_are : node_count ws ≡ m
    nodes_are = omega (arith, w.size, w.most)

    all_are : i ≡ m
    all_are = omega (arith, w.most)

    -- the sizes of what was read hold
    sizes_hold : Sizes ws es
    sizes_hold =
        let few = few_of n m p w.limits in
        record {
          some_node = omega (arith, w.size, few.one);
          whole = omega (arith, w.size);
          few_nodes = omega (arith, w.size, few.nodes);
          short_pool = omega (arith, few.pool);
        }

    -- what was read is spelt
    nodes_spelt : Spelt n ws es
    nodes_spelt =
        record {
          first = λ j b. (w.each j (omega (arith, nodes_are))).first;
          child = λ j b g. rw nodes_are ((w.each j (omega (arith, nodes_are))).child g);
          leaf = λ j b g. (w.each j (omega (arith, nodes_are))).leaf g;
          total = ap (counts_below ws) (nodes_are ∙ sym all_are) ∙ w.total;
        }

    spelling_of : Spelling n ws es
    spelling_of =
        record {
          few = (few_of n m p w.limits).rules;
          sizes = (sizes_fine_iff ws es).1 sizes_hold;
          spelt = nodes_spelt;
        }

    -- with the end line the text is that of these words
    end_text : l ≡ end_line (m + 1) → t ++ ended l ≡ file_text word n ws es
    unfolding file_text
    end_text e =
        ap (λ (u : List ℕ). u ++ ended l) w.text ∙
        sym (unlines_more (first_line word n m p ∷ node_lines ws es i) l) ∙
        rw (nodes_are, last, all_are, e)

  -- an end line that passes
  end_leads :
      m ≤ i → on_end (eqb (length es) p) (m + 1) (over (tree n ws es)) (read_line end_word one_tab l) ≡ some st →
      SaysSoFar word st (t ++ ended l)
  end_leads h q =
      let e = end_exact (eqb (length es) p) (m + 1) (over (tree n ws es)) l q in
      let last : length es ≡ p = eqb-true (length es) p e.0 in
      subst (λ (x : State). SaysSoFar word x (t ++ ended l)) e.2
      (record { text = end_text h last e.1; spelling = spelling_of h last; below = w.below })

  -- a line within the nodes leads on
  within_leads :
      (b : Bool) → ltb i m ≡ b →
      cond b (on_node n m p i ws es (read_line cut_word four_tabs l) (read_counted leaf_word l))
      (on_end (eqb (length es) p) (m + 1) (over (tree n ws es)) (read_line end_word one_tab l)) ≡ some st →
      SaysSoFar word st (t ++ ended l)
  within_leads true e q = node_leads w l st (ltb-true i m e) (read_line cut_word four_tabs l) refl q
  within_leads false e q = end_leads (ltb-false i m e) q

-- a line leads from what is said of one state to what is said of the next
leads :
    (word : List ℕ) (st st' : State) (t l : List ℕ) → SaysSoFar word st t → step st l ≡ some st' →
    SaysSoFar word st' (t ++ ended l)
unfolding step
leads word (start first) st' t l w h =
    let same = ap (λ (x : List ℕ). read_line x three_tabs l) (sym w.0) in
    first_leads word l t st' (read_line first three_tabs l) same w.1 h
leads word (within n m p i ws es) st' t l w h = within_leads w l st' (ltb i m) refl h
leads word (over x) st' t l w h = none_some h

-- a state that takes no more lines holds what the text says
held :
    (word s : List ℕ) (st : State) (n : ℕ) (ws es : List ℕ) → SaysSoFar word st s →
    finish st ≡ some (tree n ws es) → TextOf word s n ws es
unfolding finish
held word s (start first) n ws es w e = none_some e
held word s (within r m p i vs ds) n ws es w e = none_some e
held word s (over (tree r vs ds)) n ws es w e =
    let same : tree r vs ds ≡ tree n ws es = cc in
    subst (λ (x : Tree). SaysSoFar word (over x) s) same w

-- a text that reads well is the text of what it says, which is spelt, and its words are of 32 bits
pub text_says :
    (word s : List ℕ) (n : ℕ) (ws es : List ℕ) → file_in word s ≡ good (tree n ws es) → TextOf word s n ws es
unfolding file_in
text_says word s n ws es h =
    let d = led_to step finish (SaysSoFar word) (leads word) (refl, refl) s (tree n ws es) h in
    held word s d.last n ws es d.led d.result
