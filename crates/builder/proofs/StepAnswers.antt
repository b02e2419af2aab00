-- The answers of the build and of a step, by what growing from the root leaves: the list is judged first, and then the
-- tree decides. A stop that is too late to matter is taken for the latest.
use Rattle.std.specs.Prelude.{Err, Result}
use Rattle.builder.specs.declared.grow.Grown.{Grown}
use Rattle.builder.specs.Said.{Grows}
use Prim.Native.Nat.{ℕ, ◌*◌, ◌≤◌, ◌<◌, min}
use native.Mathlib.Nat.{min-le_right, min-eq_left, min-eq_right, zero-add}
use native.Mathlib.Omega.{arith}
use mathlib.Core.Path.{◌≡◌, refl, sym, ap, subst, ◌∙◌}
use mathlib.Core.List.{List}
use lib.ListN.{length}
use lib.Dec.{ltb}
use borrow.Author.Tests.{lt-leb, le-leb, lt-ltb, le-ltb}
use Rattle.facts.proofs.Cases.{WithinOrOver, at_most, over, within_or_over}
use Rattle.refusals.specs.declared.Refusal.{Refusal}
use Rattle.refusals.specs.Verdict.{Verdict}
use Rattle.refusals.specs.Verdict.{Fine, Refused}
use Rattle.refusals.specs.Paper.{Paper, success, on_paper}
use Rattle.refusals.specs.Order.{◌then◌}
use Rattle.refusals.proofs.Order.{then_refused, leaving_fine, leaving_refused}
use Rattle.refusals.proofs.Promises.{writes_fine, writes_refused, writes_after}
use Rattle.trees.specs.Words.{node_words, most_nodes}
use Rattle.built.specs.Trees.{Tree}
use Rattle.built.specs.Layout.{size, pooled}
use Rattle.built.specs.Stops.{up_to, last_open}
use Rattle.built.specs.BuiltTree.{tree_fits}
use Rattle.built.proofs.FullTrees.{Full, last_open_lem}
use Rattle.built.proofs.LateStops.{late_whole, late_fits}
use Rattle.builder.specs.Build.{TreeStored, step_paper, step_values}
use Rattle.builder.specs.BuildSteps.{RootGrown, most_end}
use Rattle.builder.specs.Answers.{step_of}

-- ---- the words are stored

module _ {R : Type 0} (paper : R → Paper) (answer : Result Grown Refusal → R) {t : Tree} {nodes pool nodes' pool' : List ℕ}
    {g : Result Grown Refusal} (w : RootGrown t nodes pool g nodes' pool') where
  -- what growing from the root leaves is what the call leaves, where its answers say on paper what the root's say
  pub stored :
      {r : R} {values : List ℕ} → r ≡ answer g →
      ((why : Refusal) → paper (answer (Err why)) ≡ on_paper why) →
      paper (answer (Grows (size t) (length (pooled t)) (last_open t))) ≡ success values →
      TreeStored paper (tree_fits t (length nodes) (length pool)) values t nodes pool r nodes' pool'
  stored {r} {values} q refuses says = go (tree_fits t (length nodes) (length pool)) refl
    where
      v : Verdict
      v = tree_fits t (length nodes) (length pool)

      go : (u : Verdict) → v ≡ u → TreeStored paper v values t nodes pool r nodes' pool'
      go Fine e =
          let said : g ≡ Grows (size t) (length (pooled t)) (last_open t) =
          w.answers ∙ rw e (simp zero-add refl) in
          let p : paper r ≡ success values = ap paper (q ∙ ap answer said) ∙ says in (
            writes_fine e p (w.nodes_left ∙ leaving_fine _ _ e),
            writes_fine e p (w.pool_left ∙ leaving_fine _ _ e),
          )
      go (Refused why) e =
          let said : g ≡ Err why = w.answers ∙ rw e in
          let p : paper r ≡ on_paper why = ap paper (q ∙ ap answer said) ∙ refuses why in (
            writes_refused {why = why} e p (w.nodes_left ∙ leaving_refused _ _ e),
            writes_refused {why = why} e p (w.pool_left ∙ leaving_refused _ _ e),
          )

-- ---- the list or the part is judged first

module _ {R : Type 0} {paper : R → Paper} {u : Verdict} (v : Verdict) {values : List ℕ} (t : Tree)
    {nodes pool : List ℕ} {r : R} where
  -- what is refused before leaves both outputs as found
  pub judged_refused :
      {why : Refusal} → u ≡ Refused why → paper r ≡ on_paper why →
      TreeStored paper (u then v) values t nodes pool r nodes pool
  judged_refused {why} e q =
      let w = then_refused v e in (writes_refused {why = why} w q refl, writes_refused {why = why} w q refl)

  -- what is fine before leaves it to the tree
  pub judged_fine :
      {nodes' pool' : List ℕ} → u ≡ Fine → TreeStored paper v values t nodes pool r nodes' pool' →
      TreeStored paper (u then v) values t nodes pool r nodes' pool'
  judged_fine e w = (writes_after e w.0, writes_after e w.1)

-- ---- late stops

late : (n e : ℕ) → most_end ≤ e → min n (most_nodes * node_words) < e * node_words
late n e h = omega (arith, min-le_right n (most_nodes * node_words))

module _ {nodes pool nodes' pool' : List ℕ} {g : Result Grown Refusal} where
  -- two trees that fit alike, and are one where they fit, are grown alike
  same_grown :
      {s t : Tree} → tree_fits s (length nodes) (length pool) ≡ tree_fits t (length nodes) (length pool) →
      (tree_fits s (length nodes) (length pool) ≡ Fine → s ≡ t) → RootGrown s nodes pool g nodes' pool' →
      RootGrown t nodes pool g nodes' pool'
  same_grown {s} {t} e f w = go (tree_fits s (length nodes) (length pool)) refl
    where
      go :
          (u : Verdict) → tree_fits s (length nodes) (length pool) ≡ u → RootGrown t nodes pool g nodes' pool'
      go Fine q = subst (λ (x : Tree). RootGrown x nodes pool g nodes' pool') (f q) w
      go (Refused why) q =
          let p : tree_fits t (length nodes) (length pool) ≡ Refused why = sym e ∙ q in
          record {
            answers = w.answers ∙ rw (q, p);
            nodes_left = w.nodes_left ∙ leaving_refused _ _ q ∙ sym (leaving_refused _ _ p);
            pool_left = w.pool_left ∙ leaving_refused _ _ q ∙ sym (leaving_refused _ _ p);
          }

  module _ (t : Tree) where
    -- a tree that stops late is grown as the whole is
    pub late_grown :
        (e : ℕ) → most_end ≤ e → RootGrown (up_to e t 0) nodes pool g nodes' pool' →
        RootGrown t nodes pool g nodes' pool'
    late_grown e h w =
        same_grown (late_fits _ _ e (late (length nodes) e h) t 0 0 (omega arith))
        (late_whole _ _ e (late (length nodes) e h) t 0 0 (omega arith)) w

    whole_grown :
        (e : ℕ) → most_end ≤ e → RootGrown t nodes pool g nodes' pool' →
        RootGrown (up_to e t 0) nodes pool g nodes' pool'
    whole_grown e h w =
        let alike = late_fits _ _ e (late (length nodes) e h) t 0 0 (omega arith) in
        same_grown (sym alike) (λ q. sym (late_whole _ _ e (late (length nodes) e h) t 0 0 (omega arith) (alike ∙ q))) w

    -- so the latest stop stands for those behind it
    pub end_grown :
        (e : ℕ) → RootGrown (up_to (min e most_end) t 0) nodes pool g nodes' pool' →
        RootGrown (up_to e t 0) nodes pool g nodes' pool'
    end_grown e w = go (within_or_over e most_end)
      where
        go : WithinOrOver e most_end → RootGrown (up_to e t 0) nodes pool g nodes' pool'
        go (at_most h) = rw (min-eq_left h) at w
        go (over h) =
            let q : min e most_end ≡ most_end = min-eq_right (omega arith) in
            whole_grown e (omega arith) (late_grown most_end (omega arith) (rw q at w))

-- ---- a step

-- the answer of a step says on paper what it has of a full tree
pub step_says :
    {t : Tree} (e : ℕ) → Full t →
    step_paper
    (step_of (Grows (size (up_to e t 0)) (length (pooled (up_to e t 0))) (last_open (up_to e t 0)))) ≡
    success (step_values e t)
step_says {t} e f = go (within_or_over (size t) e)
  where
    opens : last_open (up_to e t 0) ≡ ltb e (size t)
    opens = simp zero-add at (last_open_lem e f 0 (omega arith))

    go :
        WithinOrOver (size t) e →
        step_paper
        (step_of (Grows (size (up_to e t 0)) (length (pooled (up_to e t 0))) (last_open (up_to e t 0)))) ≡
        success (step_values e t)
    go (at_most h) = rw (opens, le-ltb e (size t) h, le-leb (size t) e h)
    go (over h) = rw (opens, lt-ltb e (size t) h, lt-leb (size t) e h)
