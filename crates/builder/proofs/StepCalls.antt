-- What the promise of a step tells of its answers: a whole tree is whole, a stop is short of it, and a refusal is that
-- of what was judged before or of a node before the stop.
use Rattle.std.specs.Prelude.{Err, Result}
use Rattle.builder.specs.declared.step.Step.{Step}
use Rattle.builder.specs.Said.{Stopped, Whole}
use Prim.Native.Nat.{ℕ, ◌*◌, ◌<◌}
use native.Mathlib.Omega.{arith}
use mathlib.Core.Bool.{Bool, true, false, cond}
use mathlib.Core.Path.{◌≡◌, refl, sym, subst}
use mathlib.Core.List.{List, [], ◌∷◌}
use lib.ListN.{length, take}
use lib.Dec.{leb}
use borrow.Author.Tests.{leb-true, leb-false}
use Rattle.facts.specs.Lists.{written}
use Rattle.facts.proofs.Setting.{written_front}
use Rattle.refusals.specs.declared.Refusal.{Refusal}
use Rattle.refusals.specs.Verdict.{Verdict}
use Rattle.refusals.specs.Verdict as verdict
use Rattle.refusals.specs.Paper.{success}
use Rattle.refusals.specs.Order.{◌then◌}
use Rattle.refusals.proofs.Order.{then_fine_iff}
use Rattle.refusals.proofs.Promises.{said_by, fine_by, refused_by, left_written, left_found}
use Rattle.trees.specs.Words.{node_words}
use Rattle.built.specs.Trees.{Tree}
use Rattle.built.specs.Layout.{size, pooled, laid}
use Rattle.built.specs.Stops.{up_to}
use Rattle.built.specs.BuiltTree.{tree_fits}
use Rattle.built.proofs.Laying.{length_laid}
use Rattle.built.proofs.Stopping.{up_to_whole, up_to_size}
use Rattle.builder.specs.Build.{step_paper, StepBuilt}

-- the tree t fits, and its words stand in front of both outputs; it has n nodes and p entries
pub record Stands (t : Tree) (nodes pool : List ℕ) (n p : ℕ) (nodes' pool' : List ℕ) : Type 0 where
  pub fits : tree_fits t (length nodes) (length pool) ≡ verdict.Fine
  pub count : n ≡ size t
  pub total : p ≡ length (pooled t)
  pub nodes_are : nodes' ≡ written (laid t 0 0) nodes
  pub pool_is : pool' ≡ written (pooled t) pool

-- in front stand its words
pub stands_front :
    {t : Tree} {nodes pool nodes' pool' : List ℕ} {n p : ℕ} → Stands t nodes pool n p nodes' pool' →
    (take (n * node_words) nodes' ≡ laid t 0 0) × (take p pool' ≡ pooled t)
stands_front {t} {nodes} {pool} {n = n} {p = p} w =
    let long : length (laid t 0 0) ≡ n * node_words = omega (arith, length_laid t 0 0, w.count) in (
      rw w.nodes_are (written_front (laid t 0 0) nodes _ long),
      rw w.pool_is (written_front (pooled t) pool p (sym w.total)),
    )

flag_whole : (t : Bool) {c : ℕ} → c ≡ cond t 1 0 → c ≡ 1 → t ≡ true
flag_whole true e q = refl
flag_whole false e q = absurd (omega arith)

flag_short : (t : Bool) {c : ℕ} → c ≡ cond t 1 0 → c ≡ 0 → t ≡ false
flag_short true e q = absurd (omega arith)
flag_short false e q = refl

module _ (v : Verdict) (e : ℕ) (t : Tree) {nodes pool nodes' pool' : List ℕ} where
  -- what a step that completes stands for, by its values
  told :
      {r : Result Step Refusal} {n p flag : ℕ} → StepBuilt v e t nodes pool r nodes' pool' →
      step_paper r ≡ success (n ∷ p ∷ flag ∷ []) →
      (v ≡ verdict.Fine) × Stands (up_to e t 0) nodes pool n p nodes' pool' × (flag ≡ cond (leb (size t) e) 1 0)
  told w q =
      let said = fine_by (said_by w.0) q in
      let both = (then_fine_iff v (tree_fits (up_to e t 0) (length nodes) (length pool))).0 said.0 in
      let z = said.1 in (
        both.0,
        record {
          fits = both.1;
          count = cc;
          total = cc;
          nodes_are = left_written w.0 said.0;
          pool_is = left_written w.1 said.0;
        },
        cc,
      )

  -- a whole tree is whole
  pub step_whole :
      {n p : ℕ} → StepBuilt v e t nodes pool (Whole n p) nodes' pool' →
      (v ≡ verdict.Fine) × Stands t nodes pool n p nodes' pool'
  step_whole {n} {p} w =
      let u = told w refl in
      let all = up_to_whole e t 0 (omega (arith, leb-true (size t) e (flag_whole _ u.2 refl))) in
      (u.0, subst (λ (s : Tree). Stands s nodes pool n p nodes' pool') all u.1)

  -- a stop after k nodes is short of the tree
  pub step_stopped :
      {k p : ℕ} → StepBuilt v e t nodes pool (Stopped k p) nodes' pool' →
      (v ≡ verdict.Fine) × Stands (up_to e t 0) nodes pool k p nodes' pool' × (k ≡ e) × (e < size t)
  step_stopped w =
      let u = told w refl in
      let short = leb-false (size t) e (flag_short _ u.2 refl) in
      (u.0, u.1, omega (arith, u.1.count, up_to_size e t 0 (omega arith) (omega arith)), short)

  -- a refusal is that of what was judged before, or of a node before the stop
  pub step_refused :
      {why : Refusal} → StepBuilt v e t nodes pool (Err why) nodes' pool' →
      ((v then tree_fits (up_to e t 0) (length nodes) (length pool)) ≡ verdict.Refused why) × (nodes' ≡ nodes) ×
      (pool' ≡ pool)
  step_refused w =
      let q = refused_by (said_by w.0) refl in (q, left_found w.0 q, left_found w.1 q)
