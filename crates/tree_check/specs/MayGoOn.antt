-- What the part check is to mean. Definitions only.
--   MayGoOn rs n nodes pool           `ProperSoFar`, and each leaf so far lists every rule whose box meets its own
--   LacksSoFar rs n nodes pool i r    `ProperSoFar`, and i is the lowest leaf so far that lacks a rule, and r the
--                                     lowest rule that it lacks
use Rattle.std.specs.Prelude.{ℕ, List}
use Rattle.fields.specs.Boxes.{root_box}
use Rattle.tree_check.specs.SoFar.{ProperSoFar}
use Rattle.tree_check.specs.Leads.{Leads}
use Rattle.tree_check.specs.Lacks.{LacksNone, LacksFirst}

pub record MayGoOn (rs : List ℕ) (n : ℕ) (nodes pool : List ℕ) : Type 0 where
  pub proper : ProperSoFar rs n nodes pool
  pub lists :
      (cuts : List ℕ) (x : ℕ) (d : List (List ℕ)) → Leads nodes root_box 0 cuts x d → LacksNone rs nodes pool d x

pub record LacksSoFar (rs : List ℕ) (n : ℕ) (nodes pool : List ℕ) (i r : ℕ) : Type 0 where
  pub proper : ProperSoFar rs n nodes pool
  pub lacks : LacksFirst rs nodes pool i r
