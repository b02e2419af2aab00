-- However many steps are taken, what they come to is a stop of the list's tree.
use Prim.Native.Nat.{ℕ}
use mathlib.Core.Path.{sym, subst}
use mathlib.Core.List.{List}
use Rattle.trees.specs.Words.{node_count}
use Rattle.built.specs.StopOf.{StopOf}
use Rattle.built.proofs.FromStop.{stop_count}
use Rattle.builder.specs.Reached.{Reached, first, next}
use Rattle.builder.proofs.StopCalls.{some_stopped, on_stopped}

module _ (rs : List ℕ) where
  -- a stop is the stop after as many nodes as it has
  own_count : (k : ℕ) {part kept : List ℕ} → StopOf rs k part kept → StopOf rs (node_count part) part kept
  own_count k {part} {kept} s =
      subst (λ (j : ℕ). StopOf rs j part kept) (sym (stop_count rs k part kept s)) s

  -- what some steps have come to is a stop, after as many nodes as it has
  pub reached_stop : {part kept : List ℕ} → Reached rs part kept → StopOf rs (node_count part) part kept
  reached_stop (first most k p ns es x y w) = own_count k (some_stopped rs most w).1
  reached_stop (next most k p part kept ns es x y r w) =
      own_count k (on_stopped rs (node_count part) part kept (reached_stop r) most w).1
