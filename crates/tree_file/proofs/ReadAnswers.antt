-- From passes over a text to what the reader answers: the first, on no room, judges and counts; the second stores.
use Rattle.tree_file.specs.declared.read.Counts.{Counts}
use Rattle.std.specs.Prelude.{Err, Ok, Result}
use Prim.Native.Nat.{ℕ, ◌*◌, ◌≤◌, ◌<◌}
use native.Mathlib.Omega.{arith}
use mathlib.Core.Path.{◌≡◌, refl, sym, ap, ◌∙◌}
use mathlib.Core.List.{List, ◌++◌}
use lib.ListN.{length}
use lib.Seq.{sets}
use borrow.Author.Tests.{le-leb, lt-leb}
use Rattle.facts.proofs.Setting.{none_before}
use Rattle.refusals.specs.declared.Refusal.{Refusal}
use Rattle.refusals.specs.declared.Refusal.TheVariants.{OutputShort}
use Rattle.refusals.specs.Verdict as verdict
use Rattle.refusals.specs.Promises.{Apart}
use Rattle.refusals.proofs.Order.{holds_fine, fails_refused, then_fine, then_refused, room_short, room_fine_iff}
use Rattle.refusals.proofs.Unique.{on_paper_unique, refusal_not_success}
use Rattle.refusals.proofs.Promises.{writes_refused, writes_fine}
use Rattle.refusals.proofs.Rooms.{sets_written}
use Rattle.trees.specs.Words.{node_words, node_count, most_nodes, most_pool}
use Rattle.text.specs.Text.{Reading, good}
use Rattle.text.proofs.Runs.{refused_good}
use Rattle.tree_file.specs.TreeText.{tree, file_in}
use Rattle.tree_file.specs.Reading.{paper, room_for, read_verdict, FileRead, HoldsTree}
use Rattle.tree_file.specs.ReadSteps.{TreeStored, PassRead}
use Rattle.tree_file.proofs.Spelling.{few_nodes, sizes_of}
use Rattle.tree_file.proofs.RoundTrips.{spelling_of_read}

-- the paper tells the answers apart
pub read_apart : Apart paper
read_apart (Err a) (Err b) e = ap Err (on_paper_unique a b e)
read_apart (Err a) (Ok k) e = refusal_not_success e
read_apart (Ok j) (Err b) e = refusal_not_success (sym e)
read_apart (Ok j) (Ok k) e =
    let rules : j.rules ≡ k.rules = cc in
    let nodes : j.nodes ≡ k.nodes = cc in
    let pool : j.pool ≡ k.pool = cc in
    ap (λ (x : ℕ). HoldsTree x j.nodes j.pool) rules ∙ ap (λ (x : ℕ). HoldsTree k.rules x j.pool) nodes ∙
    ap (HoldsTree k.rules k.nodes) pool

-- what a pass that stored tells
pub stored_of :
    {a : Reading _} {nodes pool nodes' pool' : List ℕ} {k : Counts} → PassRead a nodes pool nodes' pool' (Ok k) →
    TreeStored a nodes pool nodes' pool' k.rules k.nodes k.pool
stored_of (PassRead.stores w) = w

-- the counts of a text that reads well obey the limits
pub stored_few :
    (word s : List ℕ) {nodes pool nodes' pool' : List ℕ} {n m p : ℕ} →
    TreeStored (file_in word s) nodes pool nodes' pool' n m p → (m ≤ most_nodes) × (p ≤ most_pool)
stored_few word s {n = n} w =
    let g = spelling_of_read word s n w.words w.entries w.says in
    (omega (arith, few_nodes g, w.size), omega (arith, (sizes_of g).short_pool, w.total))

-- a refusal is the answer, and the words are as found
refused_so :
    (word s : List ℕ) {nodes pool nodes' pool' : List ℕ} {why : Refusal} → nodes' ≡ nodes → pool' ≡ pool →
    read_verdict (file_in word s) (length nodes) (length pool) ≡ verdict.Refused why →
    FileRead word s nodes pool (Err why) nodes' pool'
refused_so word s same also e = (writes_refused e refl same, writes_refused e refl also)

module _
    (word s : List ℕ) {nodes pool kept kept' a b : List ℕ} (none : length kept ≡ 0) (none' : length kept' ≡ 0) where
  -- a text that is refused is refused by the reader
  pub text_refused :
      {why : Refusal} → PassRead (file_in word s) a b kept kept' (Err why) →
      FileRead word s nodes pool (Err why) (kept ++ nodes) (kept' ++ pool)
  text_refused (PassRead.refuses e) =
      refused_so word s (none_before kept nodes none) (none_before kept' pool none') (rw e)

  module _ {n m p : ℕ} (w : TreeStored (file_in word s) a b kept kept' n m p) where
    -- nodes for which there is no room are refused with their words
    pub nodes_refused :
        {needed : ℕ} → needed ≡ m * node_words → length (kept ++ nodes) < needed →
        FileRead word s nodes pool (Err (OutputShort needed 0)) (kept ++ nodes) (kept' ++ pool)
    unfolding room_for
    nodes_refused e l =
        let same = none_before kept nodes none in
        let short = room_short (length w.words) (length nodes) (e ∙ sym w.size) (rw same at l) in
        refused_so word s same (none_before kept' pool none') (rw w.says (then_refused _ (sym short)))

    module _ (l : m * node_words ≤ length (kept ++ nodes)) where
      -- then a pool for which there is no room
      pub pool_refused :
          length (kept' ++ pool) < p →
          FileRead word s nodes pool (Err (OutputShort p 1)) (kept ++ nodes) (kept' ++ pool)
      unfolding room_for
      pool_refused h =
          let same = none_before kept nodes none in
          let also = none_before kept' pool none' in
          let there = (room_fine_iff (length w.words) (length nodes)).1 (omega (arith, w.size, ap length same)) in
          let short = lt-leb (length w.entries) (length pool) (omega (arith, w.total, ap length also)) in
          refused_so word s same also (rw (w.says, ← w.total) (then_fine _ there ∙ fails_refused _ short))

      -- with room for both, the second pass is what the reader answers
      pub read_again :
          {r : Result Counts Refusal} {nodes' pool' : List ℕ} → p ≤ length (kept' ++ pool) →
          PassRead (file_in word s) (kept ++ nodes) (kept' ++ pool) nodes' pool' r →
          FileRead word s nodes pool r nodes' pool'
      unfolding room_for
      read_again h (PassRead.refuses e) = refused_good (sym e ∙ w.says)
      read_again h (PassRead.stores {k = k} x) =
          let same = none_before kept nodes none in
          let also = none_before kept' pool none' in
          let e : good (tree n w.words w.entries) ≡ good (tree k.rules x.words x.entries) =
          sym w.says ∙ x.says in
          let words : length w.words ≡ length x.words = cc in
          let entries : length w.entries ≡ length x.entries = cc in
          let room : length x.words ≤ length nodes = omega (arith, w.size, ap length same) in
          let more : length x.entries ≤ length pool = omega (arith, w.total, ap length also) in
          let count : node_count x.words ≡ k.nodes = omega (arith, x.size) in
          let fine = then_fine _ ((room_fine_iff (length x.words) (length nodes)).1 room) ∙
          holds_fine _ (le-leb (length x.entries) (length pool) more) in (
            writes_fine (rw x.says fine) (rw (x.says, count, x.total))
                (x.nodes_are ∙ ap (λ (l : List ℕ). sets l 0 x.words) same ∙ sets_written x.words nodes room ∙
                rw x.says),
            writes_fine (rw x.says fine) (rw (x.says, count, x.total))
                (x.pool_is ∙ ap (λ (l : List ℕ). sets l 0 x.entries) also ∙ sets_written x.entries pool more ∙
                rw x.says),
          )
