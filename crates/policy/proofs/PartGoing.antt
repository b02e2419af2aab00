-- What a compile goes on from is what the part file holds, and it is refused exactly as the part is.
use Rattle.std.specs.Prelude.{Err, Result, Ok}
use Rattle.policy.specs.declared.part.Begun.{Begun}
use Rattle.policy.specs.Said.{BegunWords}
use Prim.Native.Nat.{ℕ, ◌*◌, ◌≤◌}
use native.Mathlib.Omega.{arith}
use mathlib.Core.Path.{◌≡◌, refl, sym, ap, ◌∙◌}
use mathlib.Core.List.{List, [], ◌∷◌}
use mathlib.Core.Option.{Option}
use lib.ListN.{length, take}
use lib.Seq.{length-take-le}
use Rattle.facts.specs.Lists.{written}
use Rattle.refusals.specs.declared.Refusal.{Refusal}
use Rattle.refusals.specs.Verdict.{Verdict}
use Rattle.refusals.specs.Verdict as verdict
use Rattle.refusals.proofs.Order.{refused_not_fine, then_fine, then_refused}
use Rattle.refusals.proofs.Promises.{refused_by, fine_by, said_by, left_written}
use Rattle.trees.specs.Words.{node_words, most_nodes, most_pool}
use Rattle.tree_check.specs.PartCheck.{so_far_verdict}
use Rattle.text.specs.Text.{Reading, good, refused}
use Rattle.tree_file.specs.TreeText.{Tree, tree}
use Rattle.tree_file.specs.Reading.{read_verdict, nodes_in, pool_in}
use Rattle.policy.specs.Files.{part_of}
use Rattle.policy.specs.Output.{own_verdict}
use Rattle.policy.specs.TakePart.{paper, made_for, PartTaken, begun_by, goes_on}
use Rattle.policy.specs.StepOutput.{part_verdict}
use Rattle.policy.proofs.Stored.{stands}
use Rattle.policy.proofs.Output.{part_room}

-- what the part check let go on was not refused, and what it did not was
begun_refuses :
    (v : Verdict) (k n p : ℕ) {why : Refusal} → begun_by v k n p ≡ Err why → v ≡ verdict.Refused why
unfolding begun_by
begun_refuses verdict.Fine k n p e = let z : ◌≡◌ {A = ℕ} 0 1 = cc in absurd (omega arith)
begun_refuses (verdict.Refused y) k n p {why} e = let q : y ≡ why = cc in ap verdict.Refused q

-- the numbers of a part that is gone on from
abbrev rules_in : Result Begun Refusal → ℕ
rules_in (Err why) = 0
rules_in (Ok begun) = begun.rules

abbrev nodes_of : Result Begun Refusal → ℕ
nodes_of (Err why) = 0
nodes_of (Ok begun) = begun.nodes

abbrev pool_of : Result Begun Refusal → ℕ
pool_of (Err why) = 0
pool_of (Ok begun) = begun.pool

begun_goes :
    (v : Verdict) (k n p : ℕ) {i m q : ℕ} → begun_by v k n p ≡ BegunWords i m q →
    (v ≡ verdict.Fine) × (k ≡ i) × (n ≡ m) × (p ≡ q)
unfolding begun_by
begun_goes verdict.Fine k n p e = (refl, ap rules_in e, ap nodes_of e, ap pool_of e)
begun_goes (verdict.Refused y) k n p e = let z : ◌≡◌ {A = ℕ} 0 1 = cc in absurd (omega arith)

module _ (rs : List ℕ) (f : Option (List ℕ)) {nodes pool nodes' pool' : List ℕ} {t : Result Begun Refusal}
    (h : PartTaken f nodes pool t nodes' pool') where
  -- the words that were taken are those of the part that the file holds, and are within the lent words
  taken_words :
      {k n p : ℕ} → t ≡ BegunWords k n p →
      (part_of f ≡ good (tree k (take n nodes') (take p pool'))) × (n ≤ length nodes') × (p ≤ length pool')
  taken_words {k} {n} {p} e = go (part_of f) refl
    where
      says :
          (read_verdict (part_of f) (length nodes) (length pool) ≡ verdict.Fine) ×
          (k ∷ n ∷ p ∷ [] ≡ made_for (part_of f) ∷ length (nodes_in (part_of f)) ∷ length (pool_in (part_of f)) ∷ [])
      says = fine_by (said_by h.0) (ap paper e)

      go :
          (a : Reading Tree) → part_of f ≡ a →
          (a ≡ good (tree k (take n nodes') (take p pool'))) × (n ≤ length nodes') × (p ≤ length pool')
      go (refused why) q = refused_not_fine (rw q at says.0)
      go (good (tree m ns es)) q =
          let values : k ∷ n ∷ p ∷ [] ≡ m ∷ length ns ∷ length es ∷ [] = rw q at says.1 in
          let left : nodes' ≡ written ns nodes = rw q at (left_written h.0 says.0) in
          let kept : pool' ≡ written es pool = rw q at (left_written h.1 says.0) in
          let there = stands ns nodes n left (cc) in
          let held = stands es pool p kept (cc) in
          let told : m ≡ k = cc in
          (rw (told, there.0, held.0), there.1, held.1)

  -- where a part is gone on from it is the one that the file holds, it is not refused, and it is within the lent words
  pub goes_words :
      {r : Result Begun Refusal} {k n p : ℕ} → r ≡ goes_on t rs nodes' pool' → r ≡ BegunWords k n p →
      (part_of f ≡ good (tree k (take n nodes') (take p pool'))) × (part_verdict rs (part_of f) ≡ verdict.Fine) ×
      (n ≤ length nodes') × (p ≤ length pool')
  unfolding goes_on part_verdict
  goes_words {k = k} {n = n} {p = p} d e = go t refl (sym d ∙ e)
    where
      go :
          (x : Result Begun Refusal) → t ≡ x → goes_on x rs nodes' pool' ≡ BegunWords k n p →
          (part_of f ≡ good (tree k (take n nodes') (take p pool'))) × (part_verdict rs (part_of f) ≡ verdict.Fine) ×
          (n ≤ length nodes') × (p ≤ length pool')
      go (Err y) q g = let z : ◌≡◌ {A = ℕ} 0 1 = cc in absurd (omega arith)
      go (Ok x) q g =
          let w = taken_words q in
          let b = begun_goes (so_far_verdict rs x.rules (take x.nodes nodes') (take x.pool pool')) x.rules _ _ g in
          let many : x.nodes ≡ n = sym (length-take-le x.nodes nodes' w.1) ∙ b.2 in
          let held : x.pool ≡ p = sym (length-take-le x.pool pool' w.2) ∙ b.3 in
          let told = b.1 in
          let whole : part_of f ≡ good (tree k (take n nodes') (take p pool')) =
          w.0 ∙ rw (told, many, held) in
          (whole, rw w.0 (then_fine _ refl ∙ b.0), rw (← many) w.1, rw (← held) w.2)

  module _ (node_room : most_nodes * node_words ≤ length nodes) (pool_room : most_pool ≤ length pool) where
    -- where there is room for any part, a part that was not taken is refused as its file is
    taken_refused : {why : Refusal} → t ≡ Err why → own_verdict (part_of f) ≡ verdict.Refused why
    taken_refused e = sym (part_room f node_room pool_room) ∙ refused_by (said_by h.0) (ap paper e)

    -- one that is not gone on from is refused so
    pub goes_refused :
        {r : Result Begun Refusal} {why : Refusal} → r ≡ goes_on t rs nodes' pool' → r ≡ Err why →
        part_verdict rs (part_of f) ≡ verdict.Refused why
    unfolding goes_on part_verdict
    goes_refused {why = why} d e = go t refl (sym d ∙ e)
      where
        go :
            (x : Result Begun Refusal) → t ≡ x → goes_on x rs nodes' pool' ≡ Err why →
            part_verdict rs (part_of f) ≡ verdict.Refused why
        go (Err y) q g = let z : y ≡ why = cc in then_refused _ (taken_refused (q ∙ ap Err z))
        go (Ok x) q g =
            rw (taken_words q).0
            (then_fine _ refl ∙
            begun_refuses (so_far_verdict rs x.rules (take x.nodes nodes') (take x.pool pool')) x.rules _ _ g)
