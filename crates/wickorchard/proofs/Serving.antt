-- Whoever serves answers as the list does, with words that are within the lent ones.
use Rattle.std.specs.Prelude.{Result}
use Rattle.refusals.specs.declared.Refusal.{Refusal}
use Rattle.policy.specs.declared.tree.Words.{Words}
use Prim.Native.Nat.{ℕ, ◌≤◌}
use mathlib.Core.Path.{◌≡◌, sym, ap, subst, fun_ext, ◌∙◌}
use mathlib.Core.List.{List}
use lib.ListN.{length}
use Rattle.policy.specs.declared.serving.Serving.{Serving}
use Rattle.policy.specs.WhoServes.{serving_of}
use Rattle.policy.specs.Output.{by_list, answers_by}
use Rattle.policy.proofs.Servers.{served_as_list, served_within}

module _ (t : Result Words Refusal) (rs nodes pool : List ℕ) {r : Serving} (e : r ≡ serving_of t rs nodes pool) where
  -- the words are within the lent ones
  pub serving_fits : (r.nodes ≤ length nodes) × (r.pool ≤ length pool)
  serving_fits =
      subst (λ (s : Serving). (s.nodes ≤ length nodes) × (s.pool ≤ length pool)) (sym e)
      (served_within t rs nodes pool)

  -- every header gets the answer that the list gives
  pub serving_answers : answers_by r rs nodes pool ≡ by_list rs
  serving_answers =
      fun_ext
      (λ h. ap (λ (s : Serving). answers_by s rs nodes pool h) e ∙ served_as_list t rs nodes pool h)
