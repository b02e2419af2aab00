-- `console::say::put_name` meets its contract: a tab, and the name of the field. Assumes nothing.
use Prim.Native.Nat.{ℕ}
use native.Mathlib.Omega.{arith}
use mathlib.Core.List.{List, ◌∷◌}
use mathlib.Core.Path.{◌≡◌, sym, ap}
use Rattle.text.specs.Words.{tab}
use Rattle.text.proofs.Puts.{put_then, put_same}
use Rattle.console.specs.MissLines.{name_of}
use Rattle.console.proofs.Saying.{name_last}
use Rattle.console.proofs.say.put_name.Goals as goal

-- the name of a field whose number is known
named : {f : ℕ} (k : ℕ) → f ≡ k → tab ∷ name_of k ≡ tab ∷ name_of f
named k e = ap (λ (x : ℕ). tab ∷ name_of x) (sym e)

pub returns-in-0 : goal.returns-in-0
unfolding name_of
returns-in-0 c = put_same (named 0 c.in-0.is)
    (put_then (omega (arith, c.well_formed)) c.put-p.ensures c.put_bytes.ensures)

pub returns-in-1 : goal.returns-in-1
unfolding name_of
returns-in-1 c = put_same (named 1 c.in-1.is)
    (put_then (omega (arith, c.well_formed)) c.put-p.ensures c.put_bytes-in-1.ensures)

pub returns-in-2 : goal.returns-in-2
unfolding name_of
returns-in-2 c = put_same (named 2 c.in-2.is)
    (put_then (omega (arith, c.well_formed)) c.put-p.ensures c.put_bytes-in-2.ensures)

pub returns-in-3 : goal.returns-in-3
unfolding name_of
returns-in-3 c = put_same (named 3 c.in-3.is)
    (put_then (omega (arith, c.well_formed)) c.put-p.ensures c.put_bytes-in-3.ensures)

pub returns-in_default : goal.returns-in_default
returns-in_default c = put_same
    (ap (λ (l : List ℕ). tab ∷ l)
    (name_last _ (λ e. omega arith) (λ e. omega arith) (λ e. omega arith) (λ e. omega arith)))
    (put_then (omega (arith, c.well_formed)) c.put-p.ensures c.put_bytes-in_default.ensures)
