-- The calls after one another, for any first word: what the writer wrote reads back as the same tree, what the reader
-- read is written back byte for byte, and a text that reads well is refused where it is cut, and by a reader of another
-- first word.
use Rattle.tree_file.specs.declared.read.Counts.{Counts}
use Rattle.std.specs.Prelude.{Ok, Result, Err}
use Prim.Native.Nat.{ℕ, ◌*◌, ◌≤◌, ◌^◌}
use native.Mathlib.Omega.{arith}
use mathlib.Core.Bool.{false}
use mathlib.Core.Path.{◌≡◌, refl, sym, ap, ◌∙◌}
use mathlib.Core.List.{List, [], ◌∷◌, ◌++◌}
use lib.ListN.{length, take}
use lib.Dec.{eqb}
use borrow.Author.Tests.{le-leb}
use Rattle.facts.specs.Lists.{written}
use Rattle.facts.proofs.Setting.{written_front}
use Rattle.refusals.specs.declared.Refusal.{Refusal}
use Rattle.refusals.specs.declared.Refusal.TheVariants.{LineWrong, TextStops}
use Rattle.refusals.specs.Verdict as verdict
use Rattle.refusals.specs.Promises.{WritesBoth, value}
use Rattle.refusals.proofs.Order.{holds_fine, then_fine, then_fine_iff, room_fine_iff, refused_not_fine}
use Rattle.refusals.proofs.Promises.{said_by, fine_by, left_written, writes_unique}
use Rattle.refusals.proofs.Promises.{writes_fine, writes_refused, both_unique, writes_only}
use Rattle.trees.specs.Words.{node_words, node_count}
use Rattle.trees.proofs.Sizes.{sizes_fine_iff}
use Rattle.text.specs.Line.{EachUnder}
use Rattle.text.specs.Text.{Reading, good, refused, split, lines_of}
use Rattle.text.proofs.Said.{written_apart}
use Rattle.text.proofs.Plain.{Plain}
use Rattle.tree_file.specs.TreeText.{Tree, tree, file_in}
use Rattle.tree_file.specs.TreeLines.{file_text, Spelling}
use Rattle.tree_file.specs.Reading.{paper, values_in, nodes_in, pool_in, room_for, read_verdict, FileRead, HoldsTree}
use Rattle.tree_file.specs.Writing.{write_verdict, FileWritten}
use Rattle.tree_file.proofs.RoundTrips.{read_of_written, written_of_read, spelling_of_read, cut_refused}
use Rattle.tree_file.proofs.FirstWords.{other_word}
use Rattle.tree_file.proofs.SpellingVerdict.{spelling_of_fine, fine_of_spelling}
use Rattle.tree_file.proofs.ReadAnswers.{read_apart}

-- ---- the writer

-- a tree that is spelt is written where there is room for its text
pub fit_written :
    (word : List ℕ) (n : ℕ) (ns es before after : List ℕ) (t : Result ℕ Refusal) → Spelling n ns es →
    length (file_text word n ns es) ≤ length before → FileWritten word n ns es before t after →
    t ≡ Ok (length (file_text word n ns es))
fit_written word n ns es before after t spelt room w =
    (writes_unique written_apart w
    (writes_fine (then_fine _ (fine_of_spelling n ns es spelt) ∙ (room_fine_iff _ _).1 room) refl refl)).0

-- ---- after the writer

module _ (word : List ℕ) (n : ℕ) (ns es : List ℕ) {before after : List ℕ} {k : ℕ}
    (w : FileWritten word n ns es before (Ok k) after) where
  abbrev text : List ℕ
  text = file_text word n ns es

  wrote : (write_verdict word n ns es (length before) ≡ verdict.Fine) × (k ∷ [] ≡ length text ∷ [])
  wrote = fine_by (said_by w) refl

  -- the bytes in front are the text of a tree that is spelt
  wrote_text : (take k after ≡ text) × Spelling n ns es
  wrote_text =
      let size : length text ≡ k = (let e = wrote.1 in cc) in (
        rw (left_written w wrote.0) (written_front text before k size),
        spelling_of_fine n ns es ((then_fine_iff _ _).0 wrote.0).0,
      )

  -- what was written reads back as the same tree
  pub reads_back :
      Plain word → EachUnder (2 ^ 32) ns → {nodes pool x y : List ℕ} {r : Result Counts Refusal} →
      length ns ≤ length nodes → length es ≤ length pool → FileRead word (take k after) nodes pool r x y →
      (r ≡ HoldsTree n (node_count ns) (length es)) × (x ≡ written ns nodes) × (y ≡ written es pool)
  unfolding room_for
  reads_back plain b {nodes} {pool} room more q =
      let e : file_in word (take k after) ≡ good (tree n ns es) =
      rw wrote_text.0 (read_of_written word plain wrote_text.1 b) in
      let fine = then_fine _ ((room_fine_iff (length ns) (length nodes)).1 room) ∙
      holds_fine _ (le-leb (length es) (length pool) more) in
      both_unique read_apart q (writes_fine (rw e fine) (rw e) (rw e), writes_fine (rw e fine) (rw e) (rw e))

-- ---- after the reader

-- a text that is refused is what the reader answers, and nothing is written
refused_as_found :
    (word s : List ℕ) (why : Refusal) → file_in word s ≡ refused why →
    {ws xs x y : List ℕ} {t : Result Counts Refusal} →
    FileRead word s ws xs t x y → (t ≡ Err why) × (x ≡ ws) × (y ≡ xs)
refused_as_found word s why e q =
    both_unique read_apart q
    (writes_refused {why = why} (rw e) refl refl, writes_refused {why = why} (rw e) refl refl)

module _ (word s : List ℕ) {nodes pool nodes' pool' : List ℕ} {n m p : ℕ}
    (r : FileRead word s nodes pool (HoldsTree n m p) nodes' pool') where
  -- what stands in front is the tree that the text holds
  read_tree : file_in word s ≡ good (tree n (take (m * node_words) nodes') (take p pool'))
  read_tree = go (file_in word s) refl fine (left_written r.0 fine.0) (left_written r.1 fine.0)
    where
      fine :
          (read_verdict (file_in word s) (length nodes) (length pool) ≡ verdict.Fine) ×
          (n ∷ m ∷ p ∷ [] ≡ values_in (file_in word s))
      fine = fine_by (said_by r.0) refl

      go :
          (a : Reading Tree) → file_in word s ≡ a →
          (read_verdict a (length nodes) (length pool) ≡ verdict.Fine) × (n ∷ m ∷ p ∷ [] ≡ values_in a) →
          nodes' ≡ written (nodes_in a) nodes → pool' ≡ written (pool_in a) pool →
          file_in word s ≡ good (tree n (take (m * node_words) nodes') (take p pool'))
      go (refused why) e w x y = refused_not_fine w.0
      go (good (tree u ws xs)) e w x y =
          let rules : n ≡ u = (let z = w.1 in cc) in
          let count : m ≡ node_count ws = (let z = w.1 in cc) in
          let total : length xs ≡ p = (let z = w.1 in cc) in
          let whole = ((sizes_fine_iff ws xs).0 (spelling_of_read word s u ws xs e).sizes).whole in
          let size : length ws ≡ m * node_words = omega (arith, whole) in
          e ∙ rw (rules, x, y, written_front ws nodes _ size, written_front xs pool p total)

  -- what was read is written back byte for byte
  pub writes_back :
      {found left : List ℕ} {t : Result ℕ Refusal} → length s ≤ length found →
      FileWritten word n (take (m * node_words) nodes') (take p pool') found t left →
      (t ≡ Ok (length s)) × (left ≡ written s found)
  writes_back room q =
      let e = written_of_read word s _ _ _ read_tree in
      let fine = fine_of_spelling _ _ _ (spelling_of_read word s _ _ _ read_tree) in
      writes_unique written_apart q (writes_fine (then_fine _ fine ∙ rw e ((room_fine_iff _ _).1 room)) (rw e) (rw e))

  -- cut before its end it is refused, with 10 and the number of whole lines left, and nothing is written
  pub cut_short :
      (u v : List ℕ) → s ≡ u ++ v → (v ≡ [] → ⊥) → {ws xs x y : List ℕ} {t : Result Counts Refusal} →
      FileRead word u ws xs t x y →
      (t ≡ Err (TextStops (length (lines_of (split u))))) × (x ≡ ws) × (y ≡ xs)
  cut_short u v e more q =
      refused_as_found word u _ (cut_refused word u v _ (ap (file_in word) (sym e) ∙ read_tree) more) q

-- what was read with one first word is refused with a word that begins with another byte, with 9 at line 1, and nothing
-- is written
pub read_otherwise :
    (a b : ℕ) (u v s : List ℕ) → eqb a b ≡ false → {nodes pool nodes' pool' : List ℕ} {n m p : ℕ} →
    FileRead (a ∷ u) s nodes pool (HoldsTree n m p) nodes' pool' → {ws xs x y : List ℕ} {t : Result Counts Refusal} →
    FileRead (b ∷ v) s ws xs t x y → (t ≡ Err (LineWrong 1)) × (x ≡ ws) × (y ≡ xs)
read_otherwise a b u v s d r q =
    refused_as_found (b ∷ v) s _ (other_word a b u v d s _ (read_tree (a ∷ u) s r)) q

-- ---- what the reader writes

-- the nodes of a tree that reads well are three words each, and the values say how many nodes and pool words there are
values_count :
    (word s : List ℕ) (a b : ℕ) (t : Reading Tree) → file_in word s ≡ t → read_verdict t a b ≡ verdict.Fine →
    (length (nodes_in t) ≡ value 1 (values_in t) * node_words) × (length (pool_in t) ≡ value 2 (values_in t))
values_count word s a b (refused why) q e = refused_not_fine e
values_count word s a b (good (tree n ns es)) q e =
    (omega (arith, ((sizes_fine_iff ns es).0 (spelling_of_read word s n ns es q).sizes).whole), refl)

-- its promise allows one answer, and it writes only the words that it counts
pub read_writes :
    (word s ns es : List ℕ) →
    WritesBoth ns es (FileRead word s ns es) paper (λ vs. value 1 vs * node_words) (value 2)
read_writes word s ns es =
    let sizes = values_count word s (length ns) (length es) (file_in word s) refl in (
      writes_only read_apart (λ r a p. p.1.0) (λ e. (sizes e).0),
      writes_only read_apart (λ r a p. p.1.1) (λ e. (sizes e).1),
    )
