-- THE THEOREMS of the part check: it is fine exactly where a compile may go on; 8 names the lowest leaf so far that
-- lacks a rule; and a compile may go on from an accepted tree.
use Rattle.tree_check.specs.declared.preorder.Lack.{Lack}
use Rattle.tree_check.specs.Said.{Lacks}
use Rattle.std.specs.Prelude.{Option}
use Prim.Native.Nat.{ℕ}
use mathlib.Core.Path.{◌≡◌, refl, ap, ◌∙◌}
use mathlib.Core.Logic.{◌↔◌}
use mathlib.Core.List.{List}
use Rattle.refusals.specs.declared.Refusal.TheVariants.{LeafLacksRule}
use Rattle.refusals.specs.Verdict.{Fine, Refused}
use Rattle.rules.specs.Words.{rule_count}
use Rattle.tree_check.specs.SoFar.{ProperSoFar}
use Rattle.tree_check.specs.MayGoOn.{MayGoOn, LacksSoFar}
use Rattle.tree_check.specs.TreeCheck.{lack_verdict, check_verdict}
use Rattle.tree_check.specs.PartCheck.{so_far_verdict}
use Rattle.tree_check.proofs.FormedSoFar.{so_far_of_built, accepts_of_so_far, so_far_of_whole}
use Rattle.tree_check.proofs.Lacks.{complete_iff}
use Rattle.tree_check.proofs.FirstLack.{complete_at, complete_of_each}
use Rattle.tree_check.proofs.OneLack.{lacks_first, lack_is_first}
use Rattle.tree_check.proofs.Stages.{formed, proper}
use Rattle.tree_check.proofs.Accepts.{accepted}
use Rattle.tree_check.proofs.Eight.{lack_eight}
use Rattle.tree_check.proofs.PartStages.{Taken, part_reached, part_taken, taken_decides, taken_built}

module _ {rs : List ℕ} {n : ℕ} {nodes pool : List ℕ} where
  -- where the root's part so far is reached, all is proper so far
  pub taken_proper : {c l : ℕ} {y : Option Lack} → Taken rs n nodes pool c l y → ProperSoFar rs n nodes pool
  taken_proper t =
      record {
        list = t.list;
        sizes = t.sizes;
        count = t.count;
        formed = record { spelt = t.spelt; preorder = so_far_of_built t.spelt.first (taken_built t) };
      }

  -- where all is proper so far, the root's part so far is reached
  pub takes : ProperSoFar rs n nodes pool → (c : ℕ) × (l : ℕ) × (y : Option Lack) × Taken rs n nodes pool c l y
  takes p =
      let a = accepts_of_so_far rs p.formed.preorder in (
        a.cuts,
        a.longest,
        a.lack,
        record { list = p.list; sizes = p.sizes; count = p.count; spelt = p.formed.spelt; root = a.says },
      )

module _ (rs : List ℕ) (n : ℕ) (nodes pool : List ℕ) where
  -- the part check is fine exactly where the list is good, the sizes hold, the number of rules is the list's, the tree
  -- is well formed so far, and each leaf so far lists every rule whose box meets its own
  pub fine_iff_may_go_on : (so_far_verdict rs n nodes pool ≡ Fine) ↔ MayGoOn rs n nodes pool
  fine_iff_may_go_on = (to, of)
    where
      to : so_far_verdict rs n nodes pool ≡ Fine → MayGoOn rs n nodes pool
      to e =
          let t = (part_taken rs n nodes pool e).2 in
          record {
            proper = taken_proper t;
            lists = λ cuts x d w. (complete_iff rs nodes pool d x).0 (complete_at (taken_built t) refl w);
          }

      of : MayGoOn rs n nodes pool → so_far_verdict rs n nodes pool ≡ Fine
      of m =
          let t = (takes m.proper).3 in
          taken_decides t ∙
          ap lack_verdict
          (complete_of_each (taken_built t) (λ cuts x d w. (complete_iff rs nodes pool d x).1 (m.lists cuts x d w)))

  -- where it says 8 the root's part so far is reached, with that lack
  pub eight_taken :
      {i r : ℕ} → so_far_verdict rs n nodes pool ≡ Refused (LeafLacksRule i r) →
      (c : ℕ) × (l : ℕ) × Taken rs n nodes pool c l (Lacks i r)
  eight_taken e =
      let t = part_reached rs n nodes pool refl e in
      let lack = lack_eight t.2 t.4 in
      (t.0, t.1, rw lack at t.3)

  -- it says 8 with leaf i and rule r exactly where all is proper so far, i is the lowest leaf so far that lacks a rule,
  -- and r the lowest rule that it lacks
  pub eight_iff_lacks_so_far :
      (i r : ℕ) → (so_far_verdict rs n nodes pool ≡ Refused (LeafLacksRule i r)) ↔ LacksSoFar rs n nodes pool i r
  eight_iff_lacks_so_far i r = (to, of)
    where
      to : so_far_verdict rs n nodes pool ≡ Refused (LeafLacksRule i r) → LacksSoFar rs n nodes pool i r
      to e =
          let t = (eight_taken e).2 in
          record { proper = taken_proper t; lacks = lacks_first (taken_built t) }

      of : LacksSoFar rs n nodes pool i r → so_far_verdict rs n nodes pool ≡ Refused (LeafLacksRule i r)
      of m =
          let t = takes m.proper in
          taken_decides t.3 ∙ ap lack_verdict (lack_is_first t.2 (taken_built t.3) m.lacks)

-- a tree that the tree check accepts is taken as a part
pub accepted_goes_on :
    (rs nodes pool : List ℕ) → check_verdict rs nodes pool ≡ Fine → so_far_verdict rs (rule_count rs) nodes pool ≡ Fine
accepted_goes_on rs nodes pool e =
    let t = (accepted rs nodes pool e).2 in
    let p = proper t in
    (fine_iff_may_go_on rs (rule_count rs) nodes pool).1
    (record {
      proper =
          record {
            list = p.list;
            sizes = p.sizes;
            count = refl;
            formed = record { spelt = p.formed.spelt; preorder = so_far_of_whole p.formed.preorder };
          };
      lists = λ cuts x d w. (complete_iff rs nodes pool d x).0 (complete_at (formed t).root refl w);
    })
