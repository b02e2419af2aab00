-- One step of a compile: what the build says of it, and the text of what stands then.
use Rattle.std.specs.Prelude.{Err, Result}
use Rattle.builder.specs.declared.step.Step.{Step}
use Rattle.builder.specs.Said.{Stopped, Whole}
use Prim.Native.Nat.{ℕ, ◌*◌, ◌≤◌}
use mathlib.Core.Bool.{Bool, true, false, cond}
use mathlib.Core.Path.{◌≡◌, refl, ap}
use mathlib.Core.List.{List, [], ◌∷◌}
use lib.ListN.{length, take}
use lib.Dec.{leb}
use Rattle.refusals.specs.declared.Refusal.{Refusal}
use Rattle.refusals.specs.Verdict.{Verdict}
use Rattle.refusals.specs.Verdict as verdict
use Rattle.refusals.specs.Order.{◌then◌}
use Rattle.refusals.specs.Paper.{success}
use Rattle.refusals.proofs.Order.{then_fine, then_refused}
use Rattle.refusals.proofs.Promises.{refused_by, fine_by, said_by, left_written, writes_refused, writes_after}
use Rattle.trees.specs.Words.{node_words, most_nodes, most_pool}
use Rattle.built.specs.Trees.{Tree}
use Rattle.built.specs.Layout.{size, pooled, laid}
use Rattle.built.specs.Stops.{up_to}
use Rattle.built.specs.BuiltTree.{tree_fits}
use Rattle.builder.specs.Build.{step_paper, step_values, StepBuilt}
use Rattle.text.specs.Words.{tree_word, part_word}
use Rattle.text.specs.Said.{paper}
use Rattle.tree_file.specs.TreeLines.{Spelling}
use Rattle.tree_file.specs.Writing.{FileWritten}
use Rattle.tree_file.proofs.SpellingVerdict.{fine_of_spelling}
use Rattle.policy.specs.Steps.{step_word, step_text, step_verdict, StepWithin, StepSaid, StepWritten}
use Rattle.policy.proofs.Stored.{stands, node_words_lem}

-- the first word of a text, by what a step says of its tree: 1 for whole, 0 for stopped
word_by : ℕ → List ℕ
word_by w = cond (leb 1 w) tree_word part_word

word_said : (e : ℕ) (t : Tree) (w : ℕ) → cond (leb (size t) e) 1 0 ≡ w → step_word e t ≡ word_by w
unfolding step_word word_by
word_said e t w q = go (leb (size t) e) refl
  where
    go : (b : Bool) → leb (size t) e ≡ b → cond (leb (size t) e) tree_word part_word ≡ cond (leb 1 w) tree_word part_word
    go true h = rw (← q, h)
    go false h = rw (← q, h)

module _ (v : Verdict) (e : ℕ) (t : Tree) (nodes pool : List ℕ) (node_room : length nodes ≡ most_nodes * node_words)
    (pool_room : length pool ≡ most_pool) {nodes' pool' : List ℕ} (r : Result Step Refusal)
    (b : StepBuilt v e t nodes pool r nodes' pool') where
  -- what the build refuses is refused
  refusal_said : {why : Refusal} → r ≡ Err why → step_verdict v e t ≡ verdict.Refused why
  unfolding step_verdict
  refusal_said {why} q = rw (node_room, pool_room) at (refused_by (said_by b.0) {why = why} (ap step_paper q))

  module _ {k p w : ℕ} (q : step_paper r ≡ success (k ∷ p ∷ w ∷ [])) where
    says :
        ((v then tree_fits (up_to e t 0) (length nodes) (length pool)) ≡ verdict.Fine) ×
        (k ∷ p ∷ w ∷ [] ≡ step_values e t)
    says = fine_by (said_by b.0) q

    -- the step is fine
    said_fine : step_verdict v e t ≡ verdict.Fine
    unfolding step_verdict
    said_fine = rw (node_room, pool_room) at says.0

    -- the words of the nodes stand in front
    nodes_stand : (take (k * node_words) nodes' ≡ laid (up_to e t 0) 0 0) × (k * node_words ≤ length nodes')
    nodes_stand =
        let count : k ≡ size (up_to e t 0) = (let z = says.1 in cc) in
        stands (laid (up_to e t 0) 0 0) nodes (k * node_words) (left_written b.0 says.0)
        (node_words_lem (up_to e t 0) k count)

    -- so do the entries
    pool_stands : (take p pool' ≡ pooled (up_to e t 0)) × (p ≤ length pool')
    pool_stands =
        let total : length (pooled (up_to e t 0)) ≡ p = (let z = says.1 in cc) in
        stands (pooled (up_to e t 0)) pool p (left_written b.1 says.0) total

    -- what is written of them, where they can be, is the text of the step
    words_written :
        (n : ℕ) {before after : List ℕ} {a : Result ℕ Refusal} →
        (step_verdict v e t ≡ verdict.Fine → Spelling n (laid (up_to e t 0) 0 0) (pooled (up_to e t 0))) →
        FileWritten (word_by w) n (take (k * node_words) nodes') (take p pool') before a after →
        StepWritten v n e t before a after
    unfolding step_text
    words_written n spelling h =
        let there = fine_of_spelling n (laid (up_to e t 0) 0 0) (pooled (up_to e t 0)) (spelling said_fine) in
        let same : step_word e t ≡ word_by w = word_said e t w (let z = says.1 in cc) in
        writes_after said_fine (rw same (rw (then_fine _ there) at (rw (nodes_stand.0, pool_stands.0) at h)))

  -- what a step left is within the lent words
  pub step_within : {s : Result Step Refusal} → r ≡ s → StepWithin s nodes' pool'
  step_within {s} q = go s q
    where
      go : (s : Result Step Refusal) → r ≡ s → StepWithin s nodes' pool'
      go (Err why) q = tt
      go (Whole k p) q = ((nodes_stand (ap step_paper q)).1, (pool_stands (ap step_paper q)).1)
      go (Stopped k p) q = ((nodes_stand (ap step_paper q)).1, (pool_stands (ap step_paper q)).1)

  -- what is written of a step is its text, where that of a fine step can be written
  pub step_written :
      (n : ℕ) {before after : List ℕ} {a : Result ℕ Refusal} {s : Result Step Refusal} → r ≡ s →
      (step_verdict v e t ≡ verdict.Fine → Spelling n (laid (up_to e t 0) 0 0) (pooled (up_to e t 0))) →
      StepSaid n s nodes' pool' before a after → StepWritten v n e t before a after
  unfolding word_by
  step_written n {before} {after} {a} {s} q spelling = go s q
    where
      go : (s : Result Step Refusal) → r ≡ s → StepSaid n s nodes' pool' before a after → StepWritten v n e t before a after
      go (Err why) q h = writes_refused (then_refused _ (refusal_said q)) (ap paper h.0) h.1
      go (Whole k p) q h = words_written (ap step_paper q) n spelling h
      go (Stopped k p) q h = words_written (ap step_paper q) n spelling h
