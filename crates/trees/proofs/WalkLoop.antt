-- The walk as a loop that takes one step in each turn: what is left of it, and how it ends.
use Rattle.trees.specs.declared.walk.Walked.{Walked}
use Rattle.trees.specs.Answers.{Came, Lost}
use Rattle.std.specs.Prelude.{Result, Ok, Err}
use Rattle.refusals.specs.declared.Refusal.{Refusal}
use Prim.Native.Nat.{ℕ, zero, suc, ◌+◌, ◌-◌, ◌≤◌, ◌<◌}
use native.Mathlib.Nat.{zero-add, sub-zero}
use native.Mathlib.Omega.{arith}
use mathlib.Core.Path.{◌≡◌, refl, sym, ap, ◌∙◌}
use mathlib.Core.List.{List}
use lib.ListN.{length}
use Rattle.trees.specs.declared.walk.Step.TheVariants.{Wrong, Leaf, Next}
use Rattle.trees.specs.Words.{node_count}
use Rattle.trees.specs.Walk.{step_of, Walk, lost, came, past, walk, walk_of}
use Rattle.trees.specs.Steps.{walked}
use Rattle.trees.proofs.Walking.{leaf_means, next_means, goes_on_rises}

-- where a walk ends that has already seen v nodes
pub after : ℕ → Result Walked Refusal → Result Walked Refusal
after v (Err why) = Err why
after v (Ok end) = Came end.leaf (v + end.visited)

-- where no node was seen before, the walk ends where it ends
after_none : (w : Result Walked Refusal) → after 0 w ≡ w
unfolding after
after_none (Err why) = refl
after_none (Ok end) = ap (Came end.leaf) (zero-add end.visited)

-- after v nodes a walk past a cut ends where, after one node more, the walk behind the cut ends
after_past : (v i : ℕ) (w : Walk) → after v (walked (past i w)) ≡ after (v + 1) (walked w)
unfolding after
after_past v i (lost j) = refl
after_past v i (came cuts leaf) =
    let e : v + (suc (length cuts) + 1) ≡ v + 1 + (length cuts + 1) = omega arith in
    ap (Came leaf) e

-- a walk from a node that is wrong is lost there
walk_wrong : (k : ℕ) (nodes h : List ℕ) (i : ℕ) → step_of nodes h i ≡ Wrong → walk k nodes h i ≡ lost i
unfolding walk
walk_wrong zero nodes h i e = refl
walk_wrong (suc k) nodes h i e = rw e

-- the loop's invariant: `seen` cuts lie behind, and the walk from node `at` on decides
pub record Walking (nodes h : List ℕ) (at seen : ℕ) : Type 0 where
  pub left : walked (walk_of nodes h) ≡ after seen (walked (walk (node_count nodes - seen) nodes h at))
  pub behind : seen ≤ at

-- where the loop begins the whole walk is left
pub walking_first : (nodes h : List ℕ) → Walking nodes h 0 0
unfolding walk_of
walking_first nodes h = record { left = rw sub-zero (sym (after_none _)); behind = omega arith }

module _ {nodes h : List ℕ} {at seen : ℕ} (w : Walking nodes h at seen) where
  -- a node that is wrong ends the walk there
  pub walking_lost : step_of nodes h at ≡ Wrong → Lost at ≡ walked (walk_of nodes h)
  unfolding after
  walking_lost e = sym (w.left ∙ rw (walk_wrong (node_count nodes - seen) nodes h at e))

  -- at a node that is there the nodes left are one more than at the next turn
  fuel : at < node_count nodes → node_count nodes - seen ≡ suc (node_count nodes - (seen + 1))
  fuel l = omega (arith, w.behind)

  -- a leaf ends the walk there, one node more visited
  pub walking_came : step_of nodes h at ≡ Leaf → Came at (seen + 1) ≡ walked (walk_of nodes h)
  unfolding after walk
  walking_came e = sym (w.left ∙ rw (fuel (leaf_means nodes h at e).0, e))

  -- a step on is one more node behind
  pub walking_step : {j : ℕ} → step_of nodes h at ≡ Next j → Walking nodes h j (seen + 1)
  unfolding walk
  walking_step {j} e =
      record {
        left =
            w.left ∙ rw (fuel (next_means nodes h at e).there, e)
            (after_past seen at (walk (node_count nodes - (seen + 1)) nodes h j));
        behind = omega (arith, w.behind, goes_on_rises (next_means nodes h at e));
      }
