-- What is asked of the compiler, and the part that is gone on from.
use Prim.Native.Nat.{ℕ}
use mathlib.Core.Bool.{Bool, true, false}
use mathlib.Core.Path.{◌≡◌, sym, ap, subst}
use mathlib.Core.List.{List, ◌∷◌, ◌++◌}
use mathlib.Core.Option.{Option}
use lib.ListN.{length, take}
use Rattle.refusals.specs.declared.Refusal.{Refusal}
use Rattle.refusals.specs.Verdict.{Fine, Refused}
use Rattle.text.specs.Text.{good}
use Rattle.tree_file.specs.TreeText.{tree}
use Rattle.policy.specs.Files.{part_of, most_file}
use Rattle.policy.specs.Output.{verdict_line}
use Rattle.policy.specs.Steps.{on_verdict, on_text}
use Rattle.policy.specs.StepOutput.{part_verdict, text_or, first_step}
use Rattle.ledger.specs.Ledger.{Entry, argued, enter, Enters}
use Rattle.ledger.proofs.Entering.{enters_as, enters_then, enters_first}
use Rattle.system.specs.Files.{FileLoaded}
use Rattle.system.specs.Handing.{HandedOut}
use Rattle.system.specs.Runs as runs
use Rattle.system.specs.Runs.{most_path, Anew, NextStep, gone_on, anew}
use Rattle.compile.specs.declared.Asks.{Asks}
use Rattle.compile.specs.Asks.{Due, PartLoaded}

-- what is due goes by what is asked
pub due_as :
    {a b : Asks} (rs : List ℕ) (r : Bool) {l m : ℕ} → a ≡ b → Enters (Due b rs r) l m → Enters (Due a rs r) l m
due_as rs r e h = enters_as h (λ es p. subst (λ (x : Asks). Due x rs r es) (sym e) p)

-- the path is the second argument
pub part_loaded :
    (path : List ℕ) (n : ℕ) {k j l m : ℕ} {t : Option (List ℕ)} → length path ≡ most_path →
    l ≡ enter j (argued 2 (length path) (take n path)) → Enters (FileLoaded k (take n path) t) l m →
    Enters (PartLoaded k t) j m
part_loaded path n e first file =
    enters_first (argued 2 (length path) (take n path)) first file
    (λ es h.
    record {
      path = take n path;
      reads = es;
      entries = ap (λ (x : ℕ). argued 2 x (take n path) ∷ es) e;
      read = h;
    })

-- ---- a step from nothing, after a refusal

said_so : {bs : List ℕ} {b c : Bool} {k l : ℕ} → b ≡ c → Enters (HandedOut bs b) k l → Enters (HandedOut bs c) k l
said_so {bs} e line = enters_as line (λ es h. subst (λ (y : Bool). HandedOut bs y es) e h)

module _ {rs : List ℕ} {x : ℕ} (why : Refusal) {b : Bool} {k l : ℕ}
    (line : Enters (HandedOut (verdict_line (Refused why)) b) k l) where
  -- not where the refusal was not written
  pub anew_untold : b ≡ false → Enters (Anew rs x why false) k l
  anew_untold e = enters_as (said_so e line) (λ es h. runs.untold h)

  -- else it is taken
  pub anew_told :
      {r : Bool} {m : ℕ} → b ≡ true → Enters (HandedOut (first_step rs x) r) l m → Enters (Anew rs x why r) k m
  anew_told e h = enters_then (said_so e line) h (λ es ws p q. runs.told p q)

-- ---- a step from the part in the file

module _
    {rs : List ℕ} {x n k l m : ℕ} (g : Option (List ℕ)) (size : n ≡ most_file) (file : Enters (PartLoaded n g) k l)
    {r : Bool} where
  with_part :
      {Q : List Entry → Type 0} → Enters Q l m →
      ((path : List ℕ) (es ws : List Entry) → FileLoaded most_file path g es → Q ws →
      NextStep rs x r (argued 2 most_path path ∷ (es ++ ws))) →
      Enters (NextStep rs x r) k m
  with_part {Q} h f =
      enters_then file h
      (λ es ws p q.
      subst (λ (y : List Entry). NextStep rs x r (y ++ ws)) (sym p.entries)
      (f p.path p.reads ws (subst (λ (y : ℕ). FileLoaded y p.path g p.reads) size p.read) q))

  -- a part that may be gone on from is
  pub next_on :
      {i : ℕ} {part kept : List ℕ} → part_of g ≡ good (tree i part kept) → part_verdict rs (part_of g) ≡ Fine →
      Enters (HandedOut (text_or (on_verdict rs i part kept x) (on_text rs part kept x)) r) l m →
      Enters (NextStep rs x r) k m
  next_on holds fine h = with_part h (λ path es ws p q. gone_on p holds fine q)

  -- after any other a step is taken from nothing
  pub next_anew :
      {why : Refusal} → part_verdict rs (part_of g) ≡ Refused why → Enters (Anew rs x why r) l m →
      Enters (NextStep rs x r) k m
  next_anew e h = with_part h (λ path es ws p q. anew p e q)
