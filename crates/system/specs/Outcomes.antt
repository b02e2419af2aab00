-- What comes of a run. Definitions only.
--   Hands d r es          what is handed out by the entries es is the front of what is due, d, by the bytes that
--                         standard input gave; all of it where r is true; where it is false, the last of it was not
--                         written, and nothing was asked of the system after it
--   FilesThen S d r es    the rule file is read; then S holds of the entries of a second file, unless the list is
--                         refused; and then what is due by the texts of both is handed out
--   NoFile g es           there is no second file
--   PartNamed g es         the second argument is asked for, and g is the text of the file at that path
--   ProgramWrites         the program reads its two files and hands out `output`
--   WhyWrites n           the replies to the input, that say why rule n misses its headers
--   TreeWrites            the text of the list's tree, or why there is none
--   FirstWrites m, NextWrites m    the text of a step of m nodes, from nothing or from the part in the second file
use Rattle.std.specs.Prelude.{ℕ, Bool, true, false, ◌≡◌, List, [], ◌∷◌, ◌++◌}
use Rattle.std.proofs.Math.Option.{Option}
use Rattle.text.specs.Text.{good}
use Rattle.console.specs.MissLines.{miss_answer}
use Rattle.console.specs.Gathered.{input_replies}
use Rattle.policy.specs.Files.{list_in, most_file}
use Rattle.policy.specs.Output.{on_list, output}
use Rattle.policy.specs.Compiled.{largest_build, built_text}
use Rattle.policy.specs.StepOutput.{text_or, first_output, next_output}
use Rattle.ledger.specs.Ledger.{Entry, wrote, argued, handed, input_of}
use Rattle.system.specs.Files.{FileLoaded}
use Rattle.system.specs.Runs.{rules_name, tree_name, most_path}

pub record Hands (d : List ℕ → List ℕ) (r : Bool) (es : List Entry) : Type 0 where
  pub unwritten : List ℕ
  pub due : handed es ++ unwritten ≡ d (input_of es)
  pub whole : r ≡ true → unwritten ≡ []
  pub stops : r ≡ false → (ws : List Entry) × (bs : List ℕ) × (es ≡ ws ++ (wrote bs false ∷ []))

pub record FilesThen
    (Second : Option (List ℕ) → List Entry → Type 0) (d : Option (List ℕ) → Option (List ℕ) → List ℕ → List ℕ)
    (r : Bool) (es : List Entry) : Type 0 where
  pub rules : Option (List ℕ)
  pub other : Option (List ℕ)
  pub first : List Entry
  pub second : List Entry
  pub last : List Entry
  pub in_order : es ≡ first ++ (second ++ last)
  pub rules_read : FileLoaded most_file rules_name rules first
  pub other_read : (rs : List ℕ) → list_in rules ≡ good rs → Second other second
  pub silent : (handed first ≡ []) × (handed second ≡ [])
  pub hands : Hands (d rules other) r last

abbrev pub NoFile : Option (List ℕ) → List Entry → Type 0
NoFile g es = es ≡ []

pub record PartNamed (g : Option (List ℕ)) (es : List Entry) : Type 0 where
  pub path : List ℕ
  pub reads : List Entry
  pub entries : es ≡ argued 2 most_path path ∷ reads
  pub read : FileLoaded most_file path g reads

abbrev pub ProgramWrites : Bool → List Entry → Type 0
ProgramWrites = FilesThen (FileLoaded most_file tree_name) output

abbrev pub WhyWrites : ℕ → Bool → List Entry → Type 0
WhyWrites n = FilesThen NoFile (λ f g s. on_list (list_in f) (λ rs. input_replies (miss_answer rs n) s))

abbrev pub TreeWrites : Bool → List Entry → Type 0
TreeWrites = FilesThen NoFile (λ f g s. on_list (list_in f) (λ rs. text_or (largest_build rs) (built_text rs)))

abbrev pub FirstWrites : ℕ → Bool → List Entry → Type 0
FirstWrites m = FilesThen NoFile (λ f g s. first_output f m)

abbrev pub NextWrites : ℕ → Bool → List Entry → Type 0
NextWrites m = FilesThen PartNamed (λ f g s. next_output f g m)
