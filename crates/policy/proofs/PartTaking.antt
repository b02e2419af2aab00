-- The part of the part file is taken: what the reader of parts says, in words instead of nodes; and a compile goes on
-- from it where the part check lets it.
use Rattle.policy.specs.declared.part.Begun.{Begun}
use Rattle.policy.specs.Said.{BegunWords}
use Rattle.tree_file.specs.declared.read.Counts.{Counts}
use Rattle.std.specs.Prelude.{Err, Result}
use Prim.Native.Nat.{ℕ, ◌*◌, ◌≤◌, min}
use mathlib.Core.Path.{◌≡◌, refl, ap, subst, ◌∙◌}
use mathlib.Core.List.{List, [], ◌∷◌}
use mathlib.Core.Option.{Option, none, some}
use lib.ListN.{length, take}
use Rattle.refusals.specs.declared.Refusal.{Refusal}
use Rattle.refusals.specs.declared.Refusal.TheVariants.{FileNotRead}
use Rattle.refusals.specs.Verdict.{Verdict}
use Rattle.refusals.specs.Verdict as verdict
use Rattle.refusals.specs.Paper.{success}
use Rattle.refusals.proofs.Promises.{refused_by, fine_by, said_by, writes_refused}
use Rattle.refusals.proofs.Promises.{writes_fine, left_found, left_written}
use Rattle.trees.specs.Words.{node_words}
use Rattle.tree_check.specs.PartCheck.{so_far_verdict}
use Rattle.text.specs.Words.{part_word}
use Rattle.text.specs.Text.{Reading, good, refused}
use Rattle.tree_file.specs.TreeText.{Tree, tree, part_in}
use Rattle.tree_file.specs.Reading.{read_verdict, values_in, nodes_in, pool_in, PartRead, HoldsTree}
use Rattle.tree_file.specs.Reading as reader
use Rattle.policy.specs.Files.{part_of}
use Rattle.policy.specs.TakePart.{made_for, PartTaken, begun_by, goes_on}
use Rattle.std.proofs.lemmas.List.{take_min}
use Rattle.policy.proofs.Taking.{tree_sizes}

-- ---- what the reader said

-- the number of rules that the reader gives is the one that the part says
rules_told : (t : Reading Tree) {k m p : ℕ} → k ∷ m ∷ p ∷ [] ≡ values_in t → k ≡ made_for t
rules_told (refused why) e = cc
rules_told (good (tree n ns es)) e = cc

module _ (s : List ℕ) {nodes pool nodes' pool' : List ℕ} {r : Result Counts Refusal}
    (t : PartRead s nodes pool r nodes' pool') where
  -- its refusal
  pub part_refused :
      {why : Refusal} → r ≡ Err why → PartTaken (some s) nodes pool (Err why) nodes' pool'
  unfolding part_of
  part_refused {why} e =
      let v : read_verdict (part_in s) (length nodes) (length pool) ≡ verdict.Refused why =
      refused_by (said_by t.0) (ap reader.paper e) in
      (writes_refused v refl (left_found t.0 v), writes_refused v refl (left_found t.1 v))

  module _ {k m p : ℕ} (e : r ≡ HoldsTree k m p) where
    says :
        (read_verdict (part_in s) (length nodes) (length pool) ≡ verdict.Fine) × (k ∷ m ∷ p ∷ [] ≡ values_in (part_in s))
    says = fine_by (said_by t.0) (ap reader.paper e)

    sizes :
        (m * node_words ≡ length (nodes_in (part_in s))) × (p ≡ length (pool_in (part_in s))) ×
        (m * node_words ≤ length nodes)
    sizes = tree_sizes part_word s (length nodes) (length pool) (part_in s) refl says.0 says.1

    -- its number of rules, its nodes, three words each, and its pool
    pub part_found : PartTaken (some s) nodes pool (BegunWords k (m * node_words) p) nodes' pool'
    unfolding part_of
    part_found =
        let told = rules_told (part_in s) says.1 in
        let words : success (k ∷ m * node_words ∷ p ∷ []) ≡
        success (made_for (part_in s) ∷ length (nodes_in (part_in s)) ∷ length (pool_in (part_in s)) ∷ []) =
        rw (told, sizes.0, sizes.1) in (
          writes_fine says.0 words (left_written t.0 says.0),
          writes_fine says.0 words (left_written t.1 says.0),
        )

    -- the nodes are within the lent words
    pub part_within : m * node_words ≤ length nodes
    part_within = sizes.2

-- a file that was not read
pub part_not_read : (nodes pool : List ℕ) → PartTaken none nodes pool (Err FileNotRead) nodes pool
unfolding part_of
part_not_read nodes pool =
    (writes_refused {why = FileNotRead} refl refl refl, writes_refused {why = FileNotRead} refl refl refl)

-- what is taken of a file goes by its text alone
pub part_by :
    (f g : Option (List ℕ)) {nodes pool nodes' pool' : List ℕ} {r : Result Begun Refusal} → g ≡ f →
    PartTaken g nodes pool r nodes' pool' → PartTaken f nodes pool r nodes' pool'
part_by f g {nodes} {pool} {nodes'} {pool'} {r} e t =
    subst (λ (x : Option (List ℕ)). PartTaken x nodes pool r nodes' pool') e t

-- ---- what the part check said

-- its refusal
pub begun_refused :
    {v : Verdict} {why : Refusal} (k n p : ℕ) → v ≡ verdict.Refused why → Err why ≡ begun_by v k n p
unfolding begun_by
begun_refused k n p e = rw e

-- a part that it lets go on
pub begun_fine : {v : Verdict} (k n p : ℕ) → v ≡ verdict.Fine → BegunWords k n p ≡ begun_by v k n p
unfolding begun_by
begun_fine k n p e = rw e

module _ (rs nodes pool : List ℕ) {t : Result Begun Refusal} where
  -- a refused file is gone on from by none
  pub none_goes_on : {why : Refusal} → t ≡ Err why → Err why ≡ goes_on t rs nodes pool
  unfolding goes_on
  none_goes_on e = rw e

  -- of words that were taken the check decides
  pub judged_goes_on :
      {k n p a b : ℕ} {r : Result Begun Refusal} → t ≡ BegunWords k n p → a ≡ min n (length nodes) → b ≡ min p (length pool) →
      r ≡ begun_by (so_far_verdict rs k (take a nodes) (take b pool)) k (length (take a nodes)) (length (take b pool)) →
      r ≡ goes_on t rs nodes pool
  unfolding goes_on
  judged_goes_on {k} {n} {p} {a} {b} e ea eb q =
      let same_nodes : take a nodes ≡ take n nodes = rw ea (take_min n nodes) in
      let same_pool : take b pool ≡ take p pool = rw eb (take_min p pool) in
      q ∙ rw (e, same_nodes, same_pool)
