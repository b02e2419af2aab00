-- A list is compiled: what the build says of it, and the text of what is built.
use Rattle.std.specs.Prelude.{Err, Result}
use Rattle.builder.specs.declared.build.Size.{Size}
use Rattle.builder.specs.Said.{BuiltTree}
use Prim.Native.Nat.{ℕ, ◌*◌, ◌≤◌}
use native.Mathlib.Omega.{arith}
use mathlib.Core.Path.{◌≡◌, refl, ap}
use mathlib.Core.List.{List, [], ◌∷◌}
use lib.ListN.{length, take}
use Rattle.refusals.specs.declared.Refusal.{Refusal}
use Rattle.refusals.specs.Verdict as verdict
use Rattle.refusals.proofs.Order.{then_fine, then_refused}
use Rattle.refusals.proofs.Promises.{refused_by, fine_by, said_by, left_written, writes_refused, writes_after}
use Rattle.rules.specs.Words.{rule_count}
use Rattle.rules.proofs.Lists.{good_of_fine}
use Rattle.trees.specs.Words.{node_words, most_nodes, most_pool}
use Rattle.tree_check.proofs.Accepts.{accepted}
use Rattle.built.specs.Layout.{size}
use Rattle.built.specs.BuiltTree.{built_tree, built_nodes, built_pool, build_verdict}
use Rattle.built.proofs.BuiltAccepted.{built_accepted}
use Rattle.builder.specs.Build as build
use Rattle.tree_file.specs.TreeLines.{Spelling}
use Rattle.tree_file.specs.Writing.{TreeWritten}
use Rattle.tree_file.proofs.SpellingVerdict.{fine_of_spelling}
use Rattle.policy.specs.Compiled.{largest_build, built_text, TextCompiled}
use Rattle.policy.proofs.Stored.{stands, node_words_lem}

-- where the build is fine, there is a text of what is built
pub built_spelling :
    (rs : List ℕ) → largest_build rs ≡ verdict.Fine → Spelling (rule_count rs) (built_nodes rs) (built_pool rs)
built_spelling rs e =
    let t = (accepted rs (built_nodes rs) (built_pool rs) (built_accepted rs (most_nodes * node_words) most_pool e)).2 in
    record { few = omega (arith, (good_of_fine rs t.list).few); sizes = t.sizes; spelt = t.spelt }

module _
    (rs : List ℕ) {nodes pool nodes' pool' : List ℕ} {r : Result Size Refusal} (t : build.TreeBuilt rs nodes pool r nodes' pool')
    (node_room : length nodes ≡ most_nodes * node_words) (pool_room : length pool ≡ most_pool) where
  -- what the build refuses is refused
  pub text_refused : {why : Refusal} (out : List ℕ) → r ≡ Err why → TextCompiled rs out (Err why) out
  text_refused {why} out e =
      let u : build_verdict rs (length nodes) (length pool) ≡ verdict.Refused why =
      refused_by (said_by t.0) (ap build.paper e) in
      let v : largest_build rs ≡ verdict.Refused why = rw (node_room, pool_room) at u in
      writes_refused (then_refused _ v) refl refl

  module _ {n p : ℕ} (e : r ≡ BuiltTree n p) where
    says :
        (build_verdict rs (length nodes) (length pool) ≡ verdict.Fine) × (n ∷ p ∷ [] ≡ build.built_values rs)
    says = fine_by (said_by t.0) (ap build.paper e)

    fine : largest_build rs ≡ verdict.Fine
    fine = rw (node_room, pool_room) at says.0

    -- the words of the nodes stand in front
    pub nodes_stand : (take (n * node_words) nodes' ≡ built_nodes rs) × (n * node_words ≤ length nodes')
    nodes_stand =
        let count : n ≡ size (built_tree rs) = (let z = says.1 in cc) in
        stands (built_nodes rs) nodes (n * node_words) (left_written t.0 says.0) (node_words_lem (built_tree rs) n count)

    -- so do the entries
    pub pool_stands : (take p pool' ≡ built_pool rs) × (p ≤ length pool')
    pool_stands =
        let total : length (built_pool rs) ≡ p = (let z = says.1 in cc) in
        stands (built_pool rs) pool p (left_written t.1 says.0) total

    -- what is written of them is the text of the tree
    pub text_written :
        {before after : List ℕ} {w : Result ℕ Refusal} →
        TreeWritten (rule_count rs) (take (n * node_words) nodes') (take p pool') before w after →
        TextCompiled rs before w after
    unfolding built_text
    text_written h =
        let there = fine_of_spelling (rule_count rs) (built_nodes rs) (built_pool rs) (built_spelling rs fine) in
        writes_after fine (rw (then_fine _ there) at (rw (nodes_stand.0, pool_stands.0) at h))
