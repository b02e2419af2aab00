-- The tree of the tree file is taken: what the reader of trees says, in words instead of nodes.
use Rattle.policy.specs.declared.tree.Words.{Words}
use Rattle.policy.specs.Said.{TakenWords}
use Rattle.tree_file.specs.declared.read.Counts.{Counts}
use Rattle.std.specs.Prelude.{Err, Result}
use Prim.Native.Nat.{ℕ, ◌*◌, ◌≤◌}
use native.Mathlib.Omega.{arith}
use mathlib.Core.Path.{◌≡◌, refl, ap, subst}
use mathlib.Core.List.{List, [], ◌∷◌}
use mathlib.Core.Option.{Option, none, some}
use lib.ListN.{length}
use Rattle.refusals.specs.declared.Refusal.{Refusal}
use Rattle.refusals.specs.declared.Refusal.TheVariants.{FileNotRead}
use Rattle.refusals.specs.Verdict as verdict
use Rattle.refusals.specs.Paper.{success}
use Rattle.refusals.proofs.Order.{refused_not_fine, then_fine_iff, room_fine_iff}
use Rattle.refusals.proofs.Promises.{refused_by, fine_by, said_by, writes_refused}
use Rattle.refusals.proofs.Promises.{writes_fine, left_found, left_written}
use Rattle.trees.specs.Words.{node_words, node_count}
use Rattle.trees.proofs.Sizes.{sizes_fine_iff}
use Rattle.text.specs.Words.{tree_word}
use Rattle.text.specs.Text.{Reading, good, refused}
use Rattle.tree_file.specs.TreeText.{Tree, tree, file_in, tree_in}
use Rattle.tree_file.specs.Reading.{room_for, read_verdict, values_in, nodes_in, pool_in, TreeRead, HoldsTree}
use Rattle.tree_file.specs.Reading as reader
use Rattle.tree_file.proofs.RoundTrips.{spelling_of_read}
use Rattle.policy.specs.Files.{tree_of}
use Rattle.policy.specs.TakeTree.{TreeTaken}

-- ---- what the reader said

module _ (word s : List ℕ) (a b : ℕ) where
  -- the nodes of a tree that was read, or of a part, are three words each, and they and the pool are within the rooms a
  -- and b
  pub tree_sizes :
      (t : Reading Tree) → file_in word s ≡ t → read_verdict t a b ≡ verdict.Fine → {k m p : ℕ} →
      k ∷ m ∷ p ∷ [] ≡ values_in t →
      (m * node_words ≡ length (nodes_in t)) × (p ≡ length (pool_in t)) × (m * node_words ≤ a)
  unfolding room_for
  tree_sizes (refused why) q e z = refused_not_fine e
  tree_sizes (good (tree n ns es)) q e {k} {m} {p} z =
      let room = (room_fine_iff (length ns) a).0 ((then_fine_iff _ _).0 e).0 in
      let whole = ((sizes_fine_iff ns es).0 (spelling_of_read _ s n ns es q).sizes).whole in
      let count : m ≡ node_count ns = cc in
      let total : p ≡ length es = cc in
      (omega (arith, count, whole), total, omega (arith, count, room))

module _ (s : List ℕ) {nodes pool nodes' pool' : List ℕ} {r : Result Counts Refusal}
    (t : TreeRead s nodes pool r nodes' pool') where
  -- its refusal
  pub tree_refused :
      {why : Refusal} → r ≡ Err why → TreeTaken (some s) nodes pool (Err why) nodes' pool'
  unfolding tree_of
  tree_refused {why} e =
      let v : read_verdict (tree_in s) (length nodes) (length pool) ≡ verdict.Refused why =
      refused_by (said_by t.0) (ap reader.paper e) in
      (writes_refused v refl (left_found t.0 v), writes_refused v refl (left_found t.1 v))

  module _ {k m p : ℕ} (e : r ≡ HoldsTree k m p) where
    says :
        (read_verdict (tree_in s) (length nodes) (length pool) ≡ verdict.Fine) × (k ∷ m ∷ p ∷ [] ≡ values_in (tree_in s))
    says = fine_by (said_by t.0) (ap reader.paper e)

    sizes :
        (m * node_words ≡ length (nodes_in (tree_in s))) × (p ≡ length (pool_in (tree_in s))) ×
        (m * node_words ≤ length nodes)
    sizes = tree_sizes tree_word s (length nodes) (length pool) (tree_in s) refl says.0 says.1

    -- its nodes, three words each, and its pool
    pub tree_found : TreeTaken (some s) nodes pool (TakenWords (m * node_words) p) nodes' pool'
    unfolding tree_of
    tree_found =
        let words : success (m * node_words ∷ p ∷ []) ≡
        success (length (nodes_in (tree_in s)) ∷ length (pool_in (tree_in s)) ∷ []) = rw (sizes.0, sizes.1) in (
          writes_fine says.0 words (left_written t.0 says.0),
          writes_fine says.0 words (left_written t.1 says.0),
        )

    -- the nodes are within the lent words
    pub tree_within : m * node_words ≤ length nodes
    tree_within = sizes.2

-- a file that was not read
pub tree_not_read : (nodes pool : List ℕ) → TreeTaken none nodes pool (Err FileNotRead) nodes pool
unfolding tree_of
tree_not_read nodes pool =
    (writes_refused {why = FileNotRead} refl refl refl, writes_refused {why = FileNotRead} refl refl refl)

-- what is taken of a file goes by its text alone
pub tree_by :
    (f g : Option (List ℕ)) {nodes pool nodes' pool' : List ℕ} {r : Result Words Refusal} → g ≡ f →
    TreeTaken g nodes pool r nodes' pool' → TreeTaken f nodes pool r nodes' pool'
tree_by f g {nodes} {pool} {nodes'} {pool'} {r} e t =
    subst (λ (x : Option (List ℕ)). TreeTaken x nodes pool r nodes' pool') e t
