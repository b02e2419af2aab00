-- A line that reads well leads on: the first line to the nodes, and a node's line to the next.
--   SaysSoFar word st t    what the bytes t, read as a file that begins with the word, say of the state they lead to
use Prim.Native.Nat.{ℕ, ◌+◌, ◌<◌, ◌^◌}
use native.Mathlib.Omega.{arith}
use mathlib.Core.Bool.{◌&&◌}
use mathlib.Core.Path.{◌≡◌, refl, sym, ap, subst, ◌∙◌}
use mathlib.Core.Option.{Option, none, some}
use mathlib.Core.List.{List, [], ◌∷◌, ◌++◌, append-nil}
use lib.ListN.{length, get_or, drop}
use Rattle.facts.specs.Lists.{tabulate, all_under}
use Rattle.facts.proofs.Setting.{cells}
use Rattle.trees.proofs.LeafSpelling.{counts_first}
use Rattle.text.specs.Words.{cut_word, leaf_word, three_tabs, four_tabs}
use Rattle.text.specs.Line.{read_line, read_counted, print_line, ended, EachUnder}
use Rattle.text.specs.Text.{unlines}
use Rattle.text.specs.EndLines.{record_lines}
use Rattle.text.proofs.Lines.{Line, line_exact, none_some, made}
use Rattle.text.proofs.Counted.{counted_marks, counted_line}
use Rattle.tree_file.specs.TreeText.{tree, State, start, within, over, counts_fit, cut_fits, leaf_fits}
use Rattle.tree_file.specs.TreeText.{on_first, on_cut, on_leaf, on_node}
use Rattle.tree_file.specs.TreeLines.{first_line, file_text, Spelling}
use Rattle.tree_file.proofs.SoFar.{NodesSoFar, so_far_more}
use Rattle.tree_file.proofs.OneNode.{cut_node, leaf_node}

-- the words of a text that reads well: it is theirs, and they are spelt
pub record TextOf (word s : List ℕ) (n : ℕ) (ws es : List ℕ) : Type 0 where
  pub text : s ≡ file_text word n ws es
  pub spelling : Spelling n ws es
  pub below : EachUnder (2 ^ 32) ws

abbrev pub SaysSoFar : List ℕ → State → List ℕ → Type 0
SaysSoFar word (start first) t = (first ≡ word) × (t ≡ [])
SaysSoFar word (within n m p i ws es) t = NodesSoFar word n m p i ws es t
SaysSoFar word (over (tree n ws es)) t = TextOf word t n ws es

-- the first line leads to the nodes
pub first_leads :
    (word l t : List ℕ) (st : State) (o : Option (List ℕ)) → read_line word three_tabs l ≡ o → t ≡ [] →
    on_first o ≡ some st → SaysSoFar word st (t ++ ended l)
unfolding tabulate record_lines unlines
first_leads word l t st none q e h = none_some h
first_leads word l t st (some v) q e h =
    let f = line_exact word three_tabs l v q in
    let c = made (counts_fit (get_or v 0 0) (get_or v 1 0) (get_or v 2 0)) h in
    let text : l ≡ first_line word (get_or v 0 0) (get_or v 1 0) (get_or v 2 0) =
    f.text ∙ ap (print_line word three_tabs) (cells 3 v f.count) in
    subst (λ (x : State). SaysSoFar word x (t ++ ended l)) c.1
    (record {
      text = rw (e, text);
      size = refl;
      limits = c.0;
      most = omega arith;
      room = omega arith;
      below = tt;
      each = λ j b. absurd (omega arith);
      total = sym (counts_first []);
    })

module _ {word : List ℕ} {n m p i : ℕ} {ws es t : List ℕ} (w : NodesSoFar word n m p i ws es t) (l : List ℕ)
    (st : State) where
  module _ (h : i < m) where
    -- a cut line that passes
    cut_leads :
        (v : List ℕ) → Line cut_word four_tabs l v → on_cut n m p i ws es v ≡ some st → SaysSoFar word st (t ++ ended l)
    cut_leads v f q =
        let c = made (cut_fits m i (get_or v 0 0) (get_or v 1 0) (get_or v 3 0)) q in
        let xs : List ℕ = get_or v 1 0 ∷ get_or v 2 0 ∷ get_or v 3 0 ∷ [] in
        subst (λ (x : State). SaysSoFar word x (t ++ ended l)) c.1
        (subst (λ (ys : List ℕ). NodesSoFar word n m p (i + 1) (ws ++ xs) ys (t ++ ended l)) (append-nil es)
        (so_far_more w h (cut_node w f c.0)))

    -- a leaf line that passes
    leaf_leads :
        (o : Option (List ℕ)) → read_counted leaf_word l ≡ o → on_leaf n m p i ws es o ≡ some st →
        SaysSoFar word st (t ++ ended l)
    leaf_leads none r q = none_some q
    leaf_leads (some v) r q =
        let f = line_exact leaf_word (counted_marks v) l v (counted_line leaf_word l v r) in
        let c = made (leaf_fits n p i (length es) (get_or v 0 0) (get_or v 1 0) && all_under n (drop 2 v)) q in
        subst (λ (x : State). SaysSoFar word x (t ++ ended l)) c.1 (so_far_more w h (leaf_node w f c.0))

    -- a cut line or else a leaf line
    pub node_leads :
        (o : Option (List ℕ)) → read_line cut_word four_tabs l ≡ o →
        on_node n m p i ws es o (read_counted leaf_word l) ≡ some st → SaysSoFar word st (t ++ ended l)
    node_leads none r q = leaf_leads (read_counted leaf_word l) refl q
    node_leads (some v) r q = cut_leads v (line_exact cut_word four_tabs l v r) q
