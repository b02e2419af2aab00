-- Who serves: the tree check decides; and whoever serves answers as the list does.
use Rattle.policy.specs.declared.tree.Words.{Words}
use Rattle.policy.specs.Said.{TakenWords}
use Rattle.tree_check.specs.declared.check.Figures.{Figures}
use Rattle.tree_check.specs.Said.{Accepted}
use Rattle.std.specs.Prelude.{Err, Result, Ok}
use Prim.Native.Nat.{ℕ, min, ◌≤◌}
use native.Mathlib.Omega.{arith}
use mathlib.Core.Bool.{false}
use mathlib.Core.Path.{◌≡◌, refl, sym, ap, ◌∙◌}
use mathlib.Core.List.{List, []}
use lib.ListN.{length, take, length-take}
use Rattle.refusals.specs.declared.Refusal.{Refusal}
use Rattle.refusals.specs.Verdict.{Verdict}
use Rattle.refusals.specs.Verdict as verdict
use Rattle.refusals.proofs.Promises.{refused_by, fine_by}
use Rattle.tree_check.specs.TreeCheck.{check_verdict, TreeChecked}
use Rattle.tree_check.specs.TreeCheck as check
use Rattle.console.specs.Replies.{search_verdict, search_list, answer_to}
use Rattle.console.proofs.Agreeing.{same_answer}
use Rattle.policy.specs.declared.serving.Serving.{Serving}
use Rattle.policy.specs.WhoServes.{by_tree, serving, serving_of}
use Rattle.policy.specs.Output.{by_list, answers_by}
use Rattle.std.proofs.lemmas.List.{take_min}

-- ---- by a verdict

-- a refused tree leaves the list to serve, whatever its words are
pub serving_refused :
    {v : Verdict} {why : Refusal} (ns es : List ℕ) → v ≡ verdict.Refused why →
    serving (verdict.Refused why) [] [] ≡ serving v ns es
unfolding serving
serving_refused ns es e = rw e

-- a tree that is not refused serves with its words
pub serving_fine : {v : Verdict} (ns es : List ℕ) → v ≡ verdict.Fine → by_tree (length ns) (length es) ≡ serving v ns es
unfolding serving
serving_fine ns es e = rw e

-- ---- what the tree check said

module _ (rs ns es : List ℕ) {r : Result Figures Refusal} (c : TreeChecked rs ns es r) where
  -- its refusal
  pub check_refused :
      {why : Refusal} → r ≡ Err why →
      serving (verdict.Refused why) [] [] ≡ serving (check_verdict rs ns es) ns es
  check_refused {why} e = serving_refused ns es (refused_by c {why = why} (ap check.paper e))

  -- a tree that it accepts
  pub check_accepted :
      {cuts longest : ℕ} → r ≡ Accepted cuts longest →
      by_tree (length ns) (length es) ≡ serving (check_verdict rs ns es) ns es
  check_accepted e = serving_fine ns es (fine_by c (ap check.paper e)).0

-- ---- what was taken

-- a refused file leaves the list to serve
pub serves_list :
    {t : Result Words Refusal} {why : Refusal} (rs nodes pool : List ℕ) {r : Serving} → t ≡ Err why →
    r ≡ serving (verdict.Refused why) [] [] → r ≡ serving_of t rs nodes pool
unfolding serving_of
serves_list rs nodes pool e q = q ∙ rw e

-- of words that were taken the check decides
pub serves_checked :
    {t : Result Words Refusal} {n p a b : ℕ} (rs nodes pool : List ℕ) {r : Serving} → t ≡ TakenWords n p → a ≡ min n (length nodes) →
    b ≡ min p (length pool) →
    r ≡ serving (check_verdict rs (take a nodes) (take b pool)) (take a nodes) (take b pool) →
    r ≡ serving_of t rs nodes pool
unfolding serving_of
serves_checked {n = n} {p = p} rs nodes pool e x y q =
    q ∙ rw (x, y, take_min n nodes, take_min p pool) (sym (rw e))

-- ---- whoever serves answers as the list does

-- by the list the tree's words make no difference
list_alone : (rs ns es h : List ℕ) → answer_to false rs ns es h ≡ by_list rs h
unfolding answer_to search_verdict search_list by_list
list_alone rs ns es h = refl

-- by whoever a verdict on the tree leaves to serve, every header gets the answer that the list gives
pub serving_as_list :
    (rs ns es nodes pool : List ℕ) (v : Verdict) → (v ≡ verdict.Fine → check_verdict rs ns es ≡ verdict.Fine) →
    take (length ns) nodes ≡ ns → take (length es) pool ≡ es → (h : List ℕ) →
    answers_by (serving v ns es) rs nodes pool h ≡ by_list rs h
unfolding serving
serving_as_list rs ns es nodes pool (verdict.Refused why) ok x y h = list_alone rs _ _ h
serving_as_list rs ns es nodes pool verdict.Fine ok x y h =
    rw (x, y) (same_answer rs ns es (ok refl) h ∙ list_alone rs ns es h)

-- the front of a list, as long as it is, is its front
front_again : (n : ℕ) (l : List ℕ) → take (length (take n l)) l ≡ take n l
front_again n l = ap (λ (k : ℕ). take k l) (length-take n l) ∙ take_min n l

-- whatever was taken of the tree file, by whoever serves every header gets the answer that the list gives
pub served_as_list :
    (t : Result Words Refusal) (rs nodes pool h : List ℕ) → answers_by (serving_of t rs nodes pool) rs nodes pool h ≡ by_list rs h
unfolding serving_of serving
served_as_list (Err why) rs nodes pool h = list_alone rs _ _ h
served_as_list (Ok taken) rs nodes pool h =
    serving_as_list rs (take taken.nodes nodes) (take taken.pool pool) nodes pool _ (λ e. e)
    (front_again taken.nodes nodes) (front_again taken.pool pool) h

-- the words of whoever serves stand within the lent ones
pub served_within :
    (t : Result Words Refusal) (rs nodes pool : List ℕ) →
    ((serving_of t rs nodes pool).nodes ≤ length nodes) × ((serving_of t rs nodes pool).pool ≤ length pool)
unfolding serving_of serving
served_within (Err why) rs nodes pool = (omega arith, omega arith)
served_within (Ok taken) rs nodes pool = go (check_verdict rs (take taken.nodes nodes) (take taken.pool pool))
  where
    go :
        (v : Verdict) →
        ((serving v (take taken.nodes nodes) (take taken.pool pool)).nodes ≤ length nodes) ×
        ((serving v (take taken.nodes nodes) (take taken.pool pool)).pool ≤ length pool)
    go (verdict.Refused why) = (omega arith, omega arith)
    go verdict.Fine = (omega (arith, length-take taken.nodes nodes), omega (arith, length-take taken.pool pool))
