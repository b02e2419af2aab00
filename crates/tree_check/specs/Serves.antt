-- What the tree check is to mean. Definitions only.
--   Agrees rs nodes pool     every legal header gets from the tree the list that it gets from the rules, line by line
--   Serves rs nodes pool     `Proper`, that is, the list is good, the sizes hold and the tree is well formed; and it
--                            agrees: it may serve
use Rattle.std.specs.Prelude.{ℕ, ◌≡◌, List}
use Rattle.fields.specs.Headers.{Legal}
use Rattle.rules.specs.Matching.{matching}
use Rattle.trees.specs.Search.{tree_list}
use Rattle.tree_check.specs.Whole.{Proper}

abbrev pub Agrees : List ℕ → List ℕ → List ℕ → Type 0
Agrees rs nodes pool = (h : List ℕ) → Legal h → tree_list rs nodes pool h ≡ matching rs h

pub record Serves (rs nodes pool : List ℕ) : Type 0 where
  pub proper : Proper rs nodes pool
  pub agrees : Agrees rs nodes pool
