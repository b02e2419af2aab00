-- Whole runs: what the functions of a program enter goes together to what its run enters.
use Prim.Native.Nat.{ℕ}
use mathlib.Core.Bool.{Bool, true, false}
use mathlib.Core.Path.{◌≡◌, subst}
use mathlib.Core.List.{List, ◌++◌}
use mathlib.Core.Option.{Option}
use Rattle.refusals.specs.declared.Refusal.{Refusal}
use Rattle.refusals.specs.Verdict.{Verdict}
use Rattle.refusals.specs.Verdict.{Refused}
use Rattle.text.specs.Text.{good, refused}
use Rattle.policy.specs.Files.{list_in, tree_of, most_file}
use Rattle.policy.specs.Output.{serving_verdict, by_list, verdict_line}
use Rattle.ledger.specs.Ledger.{Entry, Enters}
use Rattle.ledger.proofs.Entering.{enters_as, enters_then}
use Rattle.system.specs.Files.{FileLoaded}
use Rattle.system.specs.Handing.{HandedOut}
use Rattle.system.specs.Turns.{InputAnswered}
use Rattle.system.specs.Runs.{rules_name, tree_name, ByFile, no_list, with_list, Served, untold, told}

-- the size of the buffer is that of the largest file
pub file_sized :
    {n k l : ℕ} {path : List ℕ} {t : Option (List ℕ)} → n ≡ most_file → Enters (FileLoaded n path t) k l →
    Enters (FileLoaded most_file path t) k l
file_sized {path = path} {t = t} e h = enters_as h (λ es r. subst (λ (x : ℕ). FileLoaded x path t es) e r)

-- ---- by the list

module _
    {P : List ℕ → Bool → List Entry → Type 0} {n k l m : ℕ} (f : Option (List ℕ)) (size : n ≡ most_file)
    (file : Enters (FileLoaded n rules_name f) k l) {r : Bool} where
  -- a refused list is told
  pub ran_refused :
      {why : Refusal} → list_in f ≡ refused why → Enters (HandedOut (verdict_line (Refused why)) r) l m →
      Enters (ByFile P r) k m
  ran_refused e h = enters_then (file_sized size file) h (λ es ws p q. no_list p e q)

  -- else what is done by the list
  pub ran_by_list : {rs : List ℕ} → list_in f ≡ good rs → Enters (P rs r) l m → Enters (ByFile P r) k m
  ran_by_list {rs} e h = enters_then (file_sized size file) h (λ es ws p q. with_list p e q)

-- ---- by the tree, or by the list

module _
    (rs : List ℕ) {n j k l : ℕ} {v : Verdict} {b : Bool} (g : Option (List ℕ)) (size : n ≡ most_file)
    (file : Enters (FileLoaded n tree_name g) j k) (refuses : v ≡ serving_verdict rs (tree_of g))
    (line : Enters (HandedOut (verdict_line v) b) k l) where
  as_due : {c : Bool} → b ≡ c → Enters (HandedOut (verdict_line (serving_verdict rs (tree_of g))) c) k l
  as_due {c} e =
      enters_as line
      (λ es h.
      subst (λ (x : Verdict). HandedOut (verdict_line x) c es) refuses
      (subst (λ (x : Bool). HandedOut (verdict_line v) x es) e h))

  -- the input is not answered where the refusal of the tree was not written
  pub served_untold : b ≡ false → Enters (Served rs false) j l
  served_untold e = enters_then (file_sized size file) (as_due e) (λ es ws p q. untold p q)

  -- else it is, as the list answers
  pub served_told :
      {m : ℕ} {r : Bool} {answer : List ℕ → List ℕ} → b ≡ true → answer ≡ by_list rs →
      Enters (InputAnswered answer r) l m → Enters (Served rs r) j m
  served_told {r = r} e same input =
      enters_then
      (enters_then {R = λ es. (vs : List Entry) → InputAnswered (by_list rs) r vs → Served rs r (es ++ vs)}
      (file_sized size file) (as_due e) (λ es ws p q vs h. told p q h))
      (enters_as input (λ es h. subst (λ (a : List ℕ → List ℕ). InputAnswered a r es) same h))
      (λ es vs f h. f vs h)
