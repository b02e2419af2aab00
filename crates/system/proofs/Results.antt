-- Whole runs, from the files' bytes and the input's: what is handed out is what the definitions of the programs'
-- output say.
use Prim.Native.Nat.{ℕ, ◌^◌, ◌<◌}
use native.Mathlib.Omega.{arith}
use mathlib.Core.Bool.{Bool}
use mathlib.Core.Path.{◌≡◌, refl, sym, ap, ◌∙◌}
use mathlib.Core.List.{List, [], ◌∷◌, ◌++◌, append_assoc}
use mathlib.Core.Option.{Option, none}
use Rattle.refusals.specs.declared.Refusal.{Refusal}
use Rattle.refusals.specs.Verdict.{Refused}
use Rattle.text.specs.Text.{Reading, good, refused}
use Rattle.console.specs.Gathered.{input_replies}
use Rattle.console.specs.MissLines.{miss_answer}
use Rattle.console.proofs.Short.{answer_short, miss_short}
use Rattle.policy.specs.Files.{list_in, part_of, most_file}
use Rattle.policy.specs.Output.{by_list, verdict_line, on_list, output}
use Rattle.policy.specs.Compiled.{largest_build, built_text}
use Rattle.policy.specs.StepOutput.{text_or, first_step, next_step, first_output, next_output}
use Rattle.policy.proofs.Listing.{list_good, list_below}
use Rattle.policy.proofs.Output.{output_by_list, output_refused}
use Rattle.ledger.specs.Ledger.{Entry, argued, handed}
use Rattle.system.specs.Files.{FileLoaded}
use Rattle.system.specs.Turns.{AllShort}
use Rattle.system.specs.Runs as runs
use Rattle.system.specs.Runs.{tree_name, ByFile, no_list, with_list, Served, ProgramRan, NextStep, gone_on, anew}
use Rattle.system.specs.Runs.{WhyAnswered, WholeTaken, FirstTaken, NextTaken}
use Rattle.system.specs.Outcomes.{Hands, FilesThen, NoFile, PartNamed}
use Rattle.system.specs.Outcomes.{ProgramWrites, WhyWrites, TreeWrites, FirstWrites, NextWrites}
use Rattle.system.proofs.Outcomes.{file_silent, hands_out, hands_as, hands_then, hands_no_more, hands_input}

-- ---- by the list

abbrev Rest :
    (Option (List ℕ) → List Entry → Type 0) → (Option (List ℕ) → List ℕ → List ℕ) → Bool → List Entry → Type 0
Rest Second d r ws =
    (g : Option (List ℕ)) × (a : List Entry) × (b : List Entry) × (ws ≡ a ++ b) × Second g a × (handed a ≡ []) ×
    Hands (d g) r b

-- a refused list has its line, and by any other what is due comes of what is done by it
files_then :
    {Second : Option (List ℕ) → List Entry → Type 0} {d : Option (List ℕ) → Option (List ℕ) → List ℕ → List ℕ}
    {P : List ℕ → Bool → List Entry → Type 0} {r : Bool} {es : List Entry} →
    ((f : Option (List ℕ)) (why : Refusal) (s : List ℕ) → list_in f ≡ refused why →
    d f none s ≡ verdict_line (Refused why)) →
    ((f : Option (List ℕ)) (rs : List ℕ) (ws : List Entry) → list_in f ≡ good rs → P rs r ws →
    Rest Second (d f) r ws) →
    ByFile P r es → FilesThen Second d r es
unfolding handed
files_then {d = d} line by (no_list {f = f} {why = why} {es = es} {ws = ws} read e h) =
    record {
      rules = f;
      other = none;
      first = es;
      second = [];
      last = ws;
      in_order = refl;
      rules_read = read;
      other_read = λ rs q. let z : ◌≡◌ {A = ℕ} 0 1 = cc in absurd (omega arith);
      silent = (file_silent read, refl);
      hands = hands_as (λ s. sym (line f why s e)) (hands_out h);
    }
files_then {d = d} line by (with_list {f = f} {rs = rs} {es = es} {ws = ws} read e h) =
    let w = by f rs ws e h in
    record {
      rules = f;
      other = w.0;
      first = es;
      second = w.1;
      last = w.2;
      in_order = ap (λ (x : List Entry). es ++ x) w.3;
      rules_read = read;
      other_read = λ rs q. w.4;
      silent = (file_silent read, w.5);
      hands = w.6;
    }

-- ---- the program that answers

list_short : (f : Option (List ℕ)) {rs : List ℕ} → list_in f ≡ good rs → AllShort (by_list rs)
unfolding by_list
list_short f {rs} e h = answer_short rs [] [] (list_good f e) h

served_hands :
    (f : Option (List ℕ)) (rs : List ℕ) {r : Bool} (ws : List Entry) → list_in f ≡ good rs → Served rs r ws →
    Rest (FileLoaded most_file tree_name) (output f) r ws
served_hands f rs ws e (runs.untold {g = g} {es = a} {ws = b} read h) = (
  g,
  a,
  b,
  refl,
  read,
  file_silent read,
  hands_as (λ s. sym (output_by_list f g s e)) (hands_no_more (input_replies (by_list rs)) h),
)
served_hands f rs ws e (runs.told {g = g} {es = a} {ws = b} {vs = c} read h input) = (
  g,
  a,
  b ++ c,
  append_assoc a b c,
  read,
  file_silent read,
  hands_as (λ s. sym (output_by_list f g s e))
      (hands_then (input_replies (by_list rs)) c h (hands_input (list_short f e) input)),
)

pub program_writes : {r : Bool} {es : List Entry} → ProgramRan r es → ProgramWrites r es
program_writes h =
    files_then (λ f why s e. output_refused f none s e) (λ f rs ws e p. served_hands f rs ws e p) h

-- ---- one file alone

alone :
    {P : List ℕ → Bool → List Entry → Type 0} {r : Bool} {es : List Entry} (d : List ℕ → List ℕ → List ℕ) →
    ((f : Option (List ℕ)) (rs : List ℕ) (ws : List Entry) → list_in f ≡ good rs → P rs r ws → Hands (d rs) r ws) →
    ByFile P r es → FilesThen NoFile (λ f g s. on_list (list_in f) (λ rs. d rs s)) r es
unfolding handed
alone d by h =
    files_then (λ f why s e. ap (λ (a : Reading (List ℕ)). on_list a (λ rs. d rs s)) e)
    (λ f rs ws e p. (
      none,
      [],
      ws,
      refl,
      refl,
      refl,
      hands_as (λ s. sym (ap (λ (a : Reading (List ℕ)). on_list a (λ rs. d rs s)) e)) (by f rs ws e p),
    ))
    h

-- why a rule misses the input's headers
pub why_writes :
    (n : ℕ) {r : Bool} {es : List Entry} → n < 2 ^ 64 → WhyAnswered n r es → WhyWrites n r es
why_writes n small =
    alone (λ rs. input_replies (miss_answer rs n))
    (λ f rs ws e p. hands_input (λ h. miss_short rs n h (list_good f e) (list_below f e) small) p)

-- the tree of the list, at once
pub whole_writes : {r : Bool} {es : List Entry} → WholeTaken r es → TreeWrites r es
whole_writes = alone (λ rs s. text_or (largest_build rs) (built_text rs)) (λ f rs ws e p. hands_out p)

-- a step from nothing
pub first_writes : (m : ℕ) {r : Bool} {es : List Entry} → FirstTaken m r es → FirstWrites m r es
unfolding first_output
first_writes m = alone (λ rs s. first_step rs m) (λ f rs ws e p. hands_out p)

-- ---- a step from a part

next_hands :
    (m : ℕ) (f : Option (List ℕ)) (rs : List ℕ) {r : Bool} (ws : List Entry) → list_in f ≡ good rs →
    NextStep rs m r ws → Rest PartNamed (λ g s. next_output f g m) r ws
unfolding next_output next_step handed
next_hands m f rs ws e (gone_on {path = path} {g = g} {es = a} {ws = b} read holds fine h) = (
  g,
  argued 2 runs.most_path path ∷ a,
  b,
  refl,
  record { path = path; reads = a; entries = refl; read = read },
  file_silent read,
  hands_as (λ s. sym (ap (λ (l : Reading (List ℕ)). on_list l (λ rs. next_step rs (part_of g) m)) e ∙ rw (fine, holds)))
      (hands_out h),
)
next_hands m f rs ws e (anew {path = path} {g = g} {es = a} {ws = b} read refuses h) = (
  g,
  argued 2 runs.most_path path ∷ a,
  b,
  refl,
  record { path = path; reads = a; entries = refl; read = read },
  file_silent read,
  hands_as (λ s. sym (ap (λ (l : Reading (List ℕ)). on_list l (λ rs. next_step rs (part_of g) m)) e ∙ rw refuses)) (by h),
)
  where
    by : {why : Refusal} {r : Bool} {b : List Entry} → runs.Anew rs m why r b →
        Hands (λ s. verdict_line (Refused why) ++ first_step rs m) r b
    by (runs.untold h) = hands_no_more (λ s. first_step rs m) h
    by (runs.told {vs = vs} h k) = hands_then (λ s. first_step rs m) vs h (hands_out k)

pub next_writes : (m : ℕ) {r : Bool} {es : List Entry} → NextTaken m r es → NextWrites m r es
unfolding next_output
next_writes m h =
    files_then (λ f why s e. ap (λ (l : Reading (List ℕ)). on_list l (λ rs. next_step rs (part_of none) m)) e)
    (λ f rs ws e p. next_hands m f rs ws e p) h
