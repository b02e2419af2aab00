-- What the arguments ask for, and then the run.
use Rattle.system.specs.Said.{Number, Wrong, Told}
use Prim.Native.Nat.{ℕ, ◌≤◌}
use mathlib.Core.Bool.{Bool, true}
use mathlib.Core.Path.{◌≡◌, sym, subst}
use mathlib.Core.List.{List, ◌∷◌, ◌++◌}
use Rattle.console.specs.MissLines.{miss_answer}
use Rattle.policy.specs.StepOutput.{first_step}
use Rattle.ledger.specs.Ledger.{Entry, counted, enter, Enters}
use Rattle.ledger.proofs.Entering.{enters_as, enters_then, enters_first}
use Rattle.system.specs.TellsNumber.{TellsNumber}
use Rattle.system.specs.Handing.{HandedOut}
use Rattle.system.specs.Turns.{InputAnswered}
use Rattle.system.specs.Runs as runs
use Rattle.system.specs.Runs.{ByFile, WhyRan, of_rule, NextStep, CompileRan, one_step, next_step}

-- first the number of arguments is asked for, then the number that the first says, and then comes the run
asked_then :
    {Q R : List Entry → Type 0} {a b : ℕ} {told says : Told} {j k l m : ℕ} → a ≡ b → told ≡ says →
    k ≡ enter j (counted a) → Enters (TellsNumber told) k l → Enters Q l m →
    ((es ws : List Entry) → TellsNumber says es → Q ws → R (counted b ∷ (es ++ ws))) → Enters R j m
asked_then {Q} {R} {a} {b} {told = told} {says = says} p q first number rest f =
    enters_first (counted a) first
    (enters_then number rest
    (λ es ws n h.
    subst (λ (x : ℕ). R (counted x ∷ (es ++ ws))) (sym p) (f es ws (subst (λ (x : Told). TellsNumber x es) q n) h)))
    (λ es h. h)

told_as : {t u : Told} {k l : ℕ} → t ≡ u → Enters (TellsNumber t) k l → Enters (TellsNumber u) k l
told_as e h = enters_as h (λ es p. subst (λ (x : Told). TellsNumber x es) e p)

module _
    (n : ℕ) {t : Told} (j : ℕ) {k l : ℕ} (first : k ≡ enter j (counted n)) (number : Enters (TellsNumber t) k l) where
  -- an argument that is no number
  pub why_wrong : n ≡ 2 → t ≡ Wrong → Enters (WhyRan true) j l
  why_wrong e w =
      enters_first (counted n) first (told_as w number)
      (λ es h. subst (λ (x : ℕ). WhyRan true (counted x ∷ es)) (sym e) (runs.no_number h))

  pub compile_wrong : 2 ≤ n → n ≤ 3 → t ≡ Wrong → Enters (CompileRan true) j l
  compile_wrong a b w = enters_first (counted n) first (told_as w number) (λ es h. runs.no_number n a b h)

  module _ {x m : ℕ} (is : t ≡ Number x) {r : Bool} where
    -- a rule that is asked about
    pub why_ran : n ≡ 2 → Enters (ByFile (λ rs. InputAnswered (miss_answer rs x)) r) l m → Enters (WhyRan r) j m
    why_ran e h = asked_then e is first number h (λ es ws p q. of_rule p q)

    -- a step of so many nodes, from nothing or from a part
    pub step_ran : n ≡ 2 → Enters (ByFile (λ rs. HandedOut (first_step rs x)) r) l m → Enters (CompileRan r) j m
    step_ran e h = asked_then e is first number h (λ es ws p q. one_step p q)

    pub next_ran : n ≡ 3 → Enters (ByFile (λ rs. NextStep rs x) r) l m → Enters (CompileRan r) j m
    next_ran e h = asked_then e is first number h (λ es ws p q. next_step p q)
