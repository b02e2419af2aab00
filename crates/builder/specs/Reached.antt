-- What a build that is stopped again and again has come to. Definitions only.
--   Reached rs nodes pool    these words are what some steps, each going on from what the one before it gave, have come
--                            to: the first begins with nothing, and each of them stopped
use Rattle.builder.specs.Said.{Stopped}
use Rattle.std.specs.Prelude.{ℕ, ◌*◌, List, take}
use Rattle.rules.specs.Words.{rule_count}
use Rattle.trees.specs.Words.{node_words}
use Rattle.builder.specs.Build.{SomeBuilt, OnBuilt}

pub data Reached (rs : List ℕ) : List ℕ → List ℕ → Type 0 where
  first :
      (most k p : ℕ) (ns es x y : List ℕ) → SomeBuilt rs most ns es (Stopped k p) x y →
      Reached rs (take (k * node_words) x) (take p y)
  next :
      (most k p : ℕ) (part kept ns es x y : List ℕ) → Reached rs part kept →
      OnBuilt rs (rule_count rs) part kept most ns es (Stopped k p) x y → Reached rs (take (k * node_words) x) (take p y)
