-- A node's line, from what the cursor answers: it is wrong, or its words and entries are stored.
use Rattle.std.specs.Prelude.{Err, Ok, Result}
use Prim.Native.Nat.{ℕ, ◌+◌, ◌*◌, ◌<◌}
use native.Mathlib.Omega.{arith}
use mathlib.Core.Bool.{Bool, true, false}
use mathlib.Core.Path.{◌≡◌, refl, ap, ◌∙◌}
use mathlib.Core.Option.{none}
use mathlib.Core.List.{List, [], ◌∷◌, append-nil}
use lib.ListN.{length, get_or, drop}
use lib.Seq.{sets}
use borrow.Author.Tests.{lt-ltb}
use Rattle.refusals.specs.declared.Refusal.{Refusal}
use Rattle.trees.specs.Words.{node_words, leaf_mark}
use Rattle.text.specs.declared.cursor.Cursor.{Cursor}
use Rattle.text.specs.Words.{cut_word, leaf_word, two_tabs, four_tabs}
use Rattle.text.specs.Numbers.{bad}
use Rattle.text.specs.Places.{following}
use Rattle.text.specs.Line.{read_word, read_fields, read_line}
use Rattle.text.specs.Cursors.{wrong_at, cursor_at}
use Rattle.text.proofs.Views.{FieldsTaken}
use Rattle.text.proofs.LineViews.{LineHeld, number_at}
use Rattle.tree_file.specs.declared.read.Counts.{Counts}
use Rattle.tree_file.specs.TreeText.{cut_fits, leaf_fits, step}
use Rattle.tree_file.specs.NodeSteps.{Turn, EntriesRead, LineRead}
use Rattle.tree_file.proofs.Tests.{leaf_passes}
use Rattle.tree_file.proofs.LeafLine.{fields_count, no_leaf, leaf_decides}
use Rattle.text.proofs.Answers.{padded_at}

module _ (s : List ℕ) (c : Cursor) (k : Counts) (i filled : ℕ) (turn : Turn k i filled) where
  -- ---- a cut line

  module _ {values : List ℕ} {d : Cursor}
      (t : LineHeld (length s + 1) c.lines (read_line cut_word four_tabs (drop c.at s)) values d) where
    cut_number : (j : ℕ) → j < 4 → get_or values j 0 ≡ get_or t.vs j 0
    cut_number j h = number_at cut_word four_tabs (drop c.at s) t.read t.holds (omega arith) j h

    cut_tested :
        {b : Bool} → cut_fits k.nodes i (get_or values 0 0) (get_or values 1 0) (get_or values 3 0) ≡ b →
        cut_fits k.nodes i (get_or t.vs 0 0) (get_or t.vs 1 0) (get_or t.vs 3 0) ≡ b
    cut_tested e = rw (cut_number 0 (omega arith), cut_number 1 (omega arith), cut_number 3 (omega arith)) at e

    -- a cut line whose numbers do not pass is wrong
    pub cut_misfits :
        {why : Refusal} (nodes pool nodes' pool' : List ℕ) →
        cut_fits k.nodes i (get_or values 0 0) (get_or values 1 0) (get_or values 3 0) ≡ false → why ≡ wrong_at c.lines →
        LineRead s c k i filled nodes pool nodes' pool' (Err why)
    unfolding step
    cut_misfits nodes pool nodes' pool' e q =
        LineRead.refuses q (λ ws es f. rw (lt-ltb i k.nodes turn.node, t.read, cut_tested e))

    -- a cut line whose numbers pass is stored
    pub cut_stores :
        (nodes pool : List ℕ) {nodes' : List ℕ} →
        cut_fits k.nodes i (get_or values 0 0) (get_or values 1 0) (get_or values 3 0) ≡ true →
        nodes' ≡ sets nodes (i * node_words) (get_or values 1 0 ∷ get_or values 2 0 ∷ get_or values 3 0 ∷ []) →
        LineRead s c k i filled nodes pool nodes' pool (Ok (filled, d))
    unfolding step
    cut_stores nodes pool e f =
        LineRead.stores {sum = filled} (get_or values 1 0 ∷ get_or values 2 0 ∷ get_or values 3 0 ∷ []) []
        (record { size = refl; more = omega arith; fits = turn.pool; nodes_are = f; pool_is = refl }) t.there
        (λ ws es g.
        rw (
          append-nil es,
          cut_number 1 (omega arith),
          cut_number 2 (omega arith),
          cut_number 3 (omega arith),
          lt-ltb i k.nodes turn.node,
          t.read,
          cut_tested e,
        ))

  -- ---- a leaf line

  module _ (no_cut : read_line cut_word four_tabs (drop c.at s) ≡ none) (nodes pool : List ℕ) where
    -- a line that is no leaf's either is wrong
    pub leaf_refused :
        {why : Refusal} (nodes' pool' : List ℕ) → read_fields leaf_word two_tabs (drop c.at s) ≡ bad →
        why ≡ wrong_at c.lines → LineRead s c k i filled nodes pool nodes' pool' (Err why)
    leaf_refused nodes' pool' e q = LineRead.refuses q (λ ws es f. no_leaf _ _ _ _ _ ws es turn.node no_cut e)

    module _ {values : List ℕ} {d : Cursor} (t : FieldsTaken s c leaf_word two_tabs values d) where
      leaf_number : (j : ℕ) → j < 2 → get_or values j 0 ≡ get_or t.vs j 0
      leaf_number j h =
          let two =
          fields_count leaf_word two_tabs (drop c.at s) t.vs (drop d.at s)
          (read_word leaf_word (drop c.at s)) refl t.read in
          ap (λ (l : List ℕ). get_or l j 0) t.holds ∙ padded_at t.vs j (omega arith) (omega arith)

      -- a leaf line whose two numbers do not pass is wrong
      pub leaf_misfits :
          {why : Refusal} (nodes' pool' : List ℕ) →
          leaf_fits k.rules k.pool i filled (get_or values 0 0) (get_or values 1 0) ≡ false →
          why ≡ wrong_at c.lines → LineRead s c k i filled nodes pool nodes' pool' (Err why)
      leaf_misfits nodes' pool' e q =
          let test = rw (leaf_number 0 (omega arith), leaf_number 1 (omega arith)) at e in
          LineRead.refuses q
          (λ ws es f. leaf_decides _ _ _ _ _ ws es turn.node no_cut t.read ∙ rw (f, test))

      -- a leaf line whose two numbers pass is what its entries are
      pub leaf_stores :
          {nodes' pool' : List ℕ} {r : Result (ℕ × Cursor) Refusal} →
          leaf_fits k.rules k.pool i filled (get_or values 0 0) (get_or values 1 0) ≡ true →
          nodes' ≡ sets nodes (i * node_words) (leaf_mark ∷ filled ∷ get_or values 1 0 ∷ []) →
          EntriesRead s d k.rules (get_or values 1 0) filled pool pool' r →
          LineRead s c k i filled nodes pool nodes' pool' r
      leaf_stores e g (EntriesRead.refuses none_read q) =
          let test = rw (leaf_number 0 (omega arith), leaf_number 1 (omega arith)) at e in
          let none_there = rw (leaf_number 1 (omega arith)) at none_read in
          LineRead.refuses (q ∙ ap wrong_at t.lines)
          (λ ws es f. leaf_decides _ _ _ _ _ ws es turn.node no_cut t.read ∙ rw (f, test, none_there))
      leaf_stores e g (EntriesRead.stores {sum = all} ys read size sum there put) =
          let test = rw (leaf_number 0 (omega arith), leaf_number 1 (omega arith)) at e in
          let these = rw (leaf_number 1 (omega arith)) at read in
          let passes = leaf_passes k.rules k.pool i filled (get_or values 0 0) (get_or values 1 0) e in
          LineRead.stores {sum = all} (leaf_mark ∷ filled ∷ get_or values 1 0 ∷ []) ys
          (record {
            size = refl;
            more = rw size sum;
            fits = omega (arith, sum, passes.2);
            nodes_are = g;
            pool_is = put;
          })
          (there ∙ ap (λ (x : ℕ). cursor_at (length s + 1) (following x)) t.lines)
          (λ ws es f.
          leaf_decides _ _ _ _ _ ws es turn.node no_cut t.read ∙
          rw (f, test, these, f, leaf_number 1 (omega arith)))
