-- THE THEOREM: the check accepts exactly the trees that may serve.
use Rattle.tree_check.specs.declared.preorder.Lack.{Lack}
use Rattle.tree_check.specs.Said.{Complete}
use Rattle.std.specs.Prelude.{Option, Some}
use Prim.Native.Nat.{ℕ}
use mathlib.Core.Path.{◌≡◌, refl, ap, ◌∙◌}
use mathlib.Core.Logic.{◌↔◌}
use mathlib.Core.List.{List}
use Rattle.refusals.specs.Verdict.{Fine}
use Rattle.refusals.proofs.Order.{refused_not_fine}
use Rattle.tree_check.specs.TreeCheck.{lack_verdict, check_verdict}
use Rattle.tree_check.specs.Serves.{Serves}
use Rattle.tree_check.proofs.Agreement.{agrees_of_complete, complete_of_agrees}
use Rattle.tree_check.proofs.Stages.{Reached, reached, lack_decides, formed, proper, reaches}

-- a lack that is fine is none
pub lack_fine : (y : Option Lack) → lack_verdict y ≡ Fine → y ≡ Complete
lack_fine Complete e = refl
lack_fine (Some lack) e = refused_not_fine e

module _ (rs nodes pool : List ℕ) where
  -- an accepted tree has its root's part reached, without a lack
  pub accepted : check_verdict rs nodes pool ≡ Fine → (c : ℕ) × (l : ℕ) × Reached rs nodes pool c l Complete
  accepted e =
      let t = reached rs nodes pool tt e in
      let none = lack_fine t.2 t.4 in
      (t.0, t.1, rw none at t.3)

  -- the check accepts exactly where the list passes the rule check, the sizes hold, the tree is well formed, and every
  -- legal header gets from the tree the list that the line search gives
  pub accepts_iff_serves : (check_verdict rs nodes pool ≡ Fine) ↔ Serves rs nodes pool
  accepts_iff_serves = (to, of)
    where
      to : check_verdict rs nodes pool ≡ Fine → Serves rs nodes pool
      to e =
          let t = (accepted e).2 in
          record { proper = proper t; agrees = agrees_of_complete (formed t) refl }

      of : Serves rs nodes pool → check_verdict rs nodes pool ≡ Fine
      of s =
          let t = reaches s.proper in
          lack_decides t.3 ∙ ap lack_verdict (complete_of_agrees (formed t.3) s.agrees)
