-- A whole run of a program, from its first call of the system to its last; and r says whether all that was due was
-- written. Definitions only.
--   rules_name, tree_name  the names of the two files
--   most_path             the most bytes of a path
--   ByFile P r es         the rule file is read. Where its list is refused, that is told; else P holds of the list and
--                         of the entries after it
--   Served rs r es        the tree file is read, and what is refused of its tree, for the list rs, is told; then the
--                         input is answered, by the list. It is not where the refusal could not be told
--   ProgramRan r es       a run of the program that answers
--   WhyRan r es           a run of the program that says why a rule misses: nothing is done unless it has one argument,
--                         which is a number
--   Anew rs m why r es    a refusal is told, and then a step of m nodes is taken from nothing; but not where it could
--                         not be told
--   WhyAnswered n r es    by the rule file, the input is answered: why rule n misses its headers
--   NextStep rs m r es    the file that the second argument names is read. Where its part may be gone on from, that is
--                         done, by m nodes; else its refusal is told, and then a step is taken from nothing
--   WholeTaken, FirstTaken m, NextTaken m    by the rule file, the tree at once, a first step, or a step on
--   CompileRan r es       a run of the compiler: at once, where there is no argument; one step of as many nodes as the
--                         first argument says; or one from the part in the file that the second names
use Rattle.system.specs.Said.{Number, Wrong}
use Rattle.std.specs.Prelude.{ℕ, ◌≤◌, ◌<◌, Bool, true, false, ◌≡◌, List, [], ◌∷◌, ◌++◌}
use Rattle.std.proofs.Math.Option.{Option}
use Rattle.refusals.specs.declared.Refusal.{Refusal}
use Rattle.refusals.specs.Verdict.{Fine, Refused}
use Rattle.text.specs.Text.{good, refused}
use Rattle.tree_file.specs.TreeText.{tree}
use Rattle.console.specs.MissLines.{miss_answer}
use Rattle.policy.specs.Files.{list_in, tree_of, part_of, most_file}
use Rattle.policy.specs.Output.{serving_verdict, by_list, verdict_line}
use Rattle.policy.specs.Compiled.{largest_build, built_text}
use Rattle.policy.specs.Steps.{on_verdict, on_text}
use Rattle.policy.specs.StepOutput.{part_verdict, text_or, first_step}
use Rattle.ledger.specs.Ledger.{Entry, counted, argued}
use Rattle.system.specs.TellsNumber.{TellsNumber}
use Rattle.system.specs.Files.{FileLoaded}
use Rattle.system.specs.Handing.{HandedOut}
use Rattle.system.specs.Turns.{InputAnswered}

abbrev pub rules_name : List ℕ
rules_name = 114 ∷ 117 ∷ 108 ∷ 101 ∷ 115 ∷ 46 ∷ 116 ∷ 120 ∷ 116 ∷ []

abbrev pub tree_name : List ℕ
tree_name = 116 ∷ 114 ∷ 101 ∷ 101 ∷ 46 ∷ 116 ∷ 120 ∷ 116 ∷ []

abbrev pub most_path : ℕ
most_path = 4095

pub data ByFile (P : List ℕ → Bool → List Entry → Type 0) : Bool → List Entry → Type 0 where
  no_list :
      {f : Option (List ℕ)} {why : Refusal} {r : Bool} {es ws : List Entry} → FileLoaded most_file rules_name f es →
      list_in f ≡ refused why → HandedOut (verdict_line (Refused why)) r ws → ByFile P r (es ++ ws)
  with_list :
      {f : Option (List ℕ)} {rs : List ℕ} {r : Bool} {es ws : List Entry} → FileLoaded most_file rules_name f es →
      list_in f ≡ good rs → P rs r ws → ByFile P r (es ++ ws)

pub data Served (rs : List ℕ) : Bool → List Entry → Type 0 where
  untold :
      {g : Option (List ℕ)} {es ws : List Entry} → FileLoaded most_file tree_name g es →
      HandedOut (verdict_line (serving_verdict rs (tree_of g))) false ws → Served rs false (es ++ ws)
  told :
      {g : Option (List ℕ)} {r : Bool} {es ws vs : List Entry} → FileLoaded most_file tree_name g es →
      HandedOut (verdict_line (serving_verdict rs (tree_of g))) true ws → InputAnswered (by_list rs) r vs →
      Served rs r ((es ++ ws) ++ vs)

abbrev pub ProgramRan : Bool → List Entry → Type 0
ProgramRan = ByFile Served

abbrev pub WhyAnswered : ℕ → Bool → List Entry → Type 0
WhyAnswered n = ByFile (λ rs. InputAnswered (miss_answer rs n))

pub data WhyRan : Bool → List Entry → Type 0 where
  not_one : (n : ℕ) → (n ≡ 2 → ⊥) → WhyRan true (counted n ∷ [])
  no_number : {es : List Entry} → TellsNumber Wrong es → WhyRan true (counted 2 ∷ es)
  of_rule :
      {n : ℕ} {r : Bool} {es ws : List Entry} → TellsNumber (Number n) es →
      WhyAnswered n r ws → WhyRan r (counted 2 ∷ (es ++ ws))

pub data Anew (rs : List ℕ) (m : ℕ) (why : Refusal) : Bool → List Entry → Type 0 where
  untold : {ws : List Entry} → HandedOut (verdict_line (Refused why)) false ws → Anew rs m why false ws
  told :
      {r : Bool} {ws vs : List Entry} → HandedOut (verdict_line (Refused why)) true ws →
      HandedOut (first_step rs m) r vs →
      Anew rs m why r (ws ++ vs)

pub data NextStep (rs : List ℕ) (m : ℕ) : Bool → List Entry → Type 0 where
  gone_on :
      {path : List ℕ} {g : Option (List ℕ)} {n : ℕ} {part kept : List ℕ} {r : Bool} {es ws : List Entry} →
      FileLoaded most_file path g es → part_of g ≡ good (tree n part kept) → part_verdict rs (part_of g) ≡ Fine →
      HandedOut (text_or (on_verdict rs n part kept m) (on_text rs part kept m)) r ws →
      NextStep rs m r (argued 2 most_path path ∷ (es ++ ws))
  anew :
      {path : List ℕ} {g : Option (List ℕ)} {why : Refusal} {r : Bool} {es ws : List Entry} →
      FileLoaded most_file path g es → part_verdict rs (part_of g) ≡ Refused why → Anew rs m why r ws →
      NextStep rs m r (argued 2 most_path path ∷ (es ++ ws))

abbrev pub WholeTaken : Bool → List Entry → Type 0
WholeTaken = ByFile (λ rs. HandedOut (text_or (largest_build rs) (built_text rs)))

abbrev pub FirstTaken : ℕ → Bool → List Entry → Type 0
FirstTaken m = ByFile (λ rs. HandedOut (first_step rs m))

abbrev pub NextTaken : ℕ → Bool → List Entry → Type 0
NextTaken m = ByFile (λ rs. NextStep rs m)

pub data CompileRan : Bool → List Entry → Type 0 where
  too_many : (n : ℕ) → 3 < n → CompileRan true (counted n ∷ [])
  no_number : (n : ℕ) {es : List Entry} → 2 ≤ n → n ≤ 3 → TellsNumber Wrong es → CompileRan true (counted n ∷ es)
  at_once :
      (n : ℕ) {r : Bool} {es : List Entry} → n < 2 → WholeTaken r es →
      CompileRan r (counted n ∷ es)
  one_step :
      {m : ℕ} {r : Bool} {es ws : List Entry} → TellsNumber (Number m) es → FirstTaken m r ws →
      CompileRan r (counted 2 ∷ (es ++ ws))
  next_step :
      {m : ℕ} {r : Bool} {es ws : List Entry} → TellsNumber (Number m) es → NextTaken m r ws →
      CompileRan r (counted 3 ∷ (es ++ ws))
