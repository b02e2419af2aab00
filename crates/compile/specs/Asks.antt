-- What is asked of the compiler. Definitions only.
--   Due a rs r es          what is asked of the list rs is done: the whole tree at once, a first step, or a step on
--   PartLoaded n t es      the second argument is asked for, and the file at that path is read; t is its text
use Rattle.std.specs.Prelude.{ℕ, Bool, ◌≡◌, List, ◌∷◌}
use Rattle.std.proofs.Math.Option.{Option}
use Rattle.policy.specs.Compiled.{largest_build, built_text}
use Rattle.policy.specs.StepOutput.{text_or, first_step}
use Rattle.ledger.specs.Ledger.{Entry, argued}
use Rattle.system.specs.Files.{FileLoaded}
use Rattle.system.specs.Handing.{HandedOut}
use Rattle.system.specs.Runs.{most_path, NextStep}
use Rattle.compile.specs.declared.Asks.{Asks}
use Rattle.compile.specs.declared.Asks.TheVariants.{Whole, First, Next}

abbrev pub Due : Asks → List ℕ → Bool → List Entry → Type 0
Due Whole rs = HandedOut (text_or (largest_build rs) (built_text rs))
Due (First m) rs = HandedOut (first_step rs m)
Due (Next m) rs = NextStep rs m

pub record PartLoaded (n : ℕ) (t : Option (List ℕ)) (es : List Entry) : Type 0 where
  pub path : List ℕ
  pub reads : List Entry
  pub entries : es ≡ argued 2 most_path path ∷ reads
  pub read : FileLoaded n path t reads
