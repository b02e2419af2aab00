-- What reading a text is refused for, whatever the states are: 9 or 10.
use Prim.Native.Nat.{ℕ, ◌+◌, ◌≤◌}
use native.Mathlib.Omega.{arith}
use mathlib.Core.Option.{Option, none, some}
use mathlib.Core.List.{List, [], ◌∷◌}
use mathlib.Core.Path.{◌≡◌, sym}
use Rattle.refusals.specs.declared.Refusal.{Refusal}
use Rattle.refusals.specs.declared.Refusal.TheVariants.{LineWrong, TextStops}
use Rattle.refusals.specs.Table.{number_of}
use Rattle.text.specs.Text.{Text, whole, refused, at_end, on_step, run, read_all}
use Rattle.text.proofs.Runs.{refused_good}

module _ {S R : Type 0} (step : S → List ℕ → Option S) (finish : S → Option R) {why : Refusal} where
  end_low : (o : Option R) (k : ℕ) (t : List ℕ) → at_end o k t ≡ refused why → number_of why ≤ 10
  end_low none k t e = let same : TextStops k ≡ why = cc in rw (← same) (omega arith)
  end_low (some r) k [] e = refused_good (sym e)
  end_low (some r) k (b ∷ t) e = let same : LineWrong (k + 1) ≡ why = cc in rw (← same) (omega arith)

  run_low :
      (ls : List (List ℕ)) (st : S) (k : ℕ) (t : List ℕ) → run step finish st k ls t ≡ refused why →
      number_of why ≤ 10
  unfolding run
  run_low [] st k t e = end_low (finish st) k t e
  run_low (l ∷ ls) st k t e = go (step st l) (λ next. run_low ls next (k + 1) t) e
    where
      go :
          (o : Option S) → ((next : S) → run step finish next (k + 1) ls t ≡ refused why → number_of why ≤ 10) →
          on_step o k (λ next. run step finish next (k + 1) ls t) ≡ refused why → number_of why ≤ 10
      go none more e = let same : LineWrong (k + 1) ≡ why = cc in rw (← same) (omega arith)
      go (some next) more e = more next e

  -- a text that is refused is refused with 9 or 10
  pub text_low : (st : S) (k : ℕ) (x : Text) → read_all step finish st k x ≡ refused why → number_of why ≤ 10
  text_low st k (whole ls t) e = run_low ls st k t e
