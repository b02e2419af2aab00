-- The number that an argument says, from what the cursor answers.
use Rattle.system.specs.Said.{Number, Wrong, Told}
use Rattle.std.specs.Prelude.{Err, Ok}
use Prim.Native.Nat.{ℕ, ◌+◌}
use native.Mathlib.Omega.{arith}
use native.Mathlib.Numerals.{add-one}
use mathlib.Core.Path.{◌≡◌, ap, ◌∙◌}
use mathlib.Core.List.{List, [], ◌∷◌, ◌++◌, append-nil}
use lib.ListN.{length, take, get_or}
use Rattle.refusals.specs.declared.Refusal.{Refusal}
use Rattle.text.specs.declared.cursor.Fields.{Fields}
use Rattle.text.specs.Words.{tab, one_tab}
use Rattle.text.specs.Line.{read_line}
use Rattle.text.specs.Cursors.{cursor_at, whole_at}
use Rattle.text.proofs.LineViews.{held_by, number_at, no_line_by}
use Rattle.ledger.specs.Ledger.{argued}
use Rattle.system.specs.TellsNumber.{number_in, most_digits, TellsNumber}

module _ (l : List ℕ) where
  -- a line that was read has its number
  pub number_found :
      {d : Fields} → whole_at l (cursor_at 0 0) [] one_tab ≡ Ok d → Number (get_or d.values 0 0) ≡ number_in l
  unfolding number_in whole_at
  number_found h =
      let t = held_by (length l + 1) 0 (read_line [] one_tab l) h in
      rw t.read
      (ap Number (number_at [] one_tab l t.read t.holds (omega arith) 0 (omega arith)))

  -- a line that was refused has none
  pub number_wrong : {why : Refusal} → whole_at l (cursor_at 0 0) [] one_tab ≡ Err why → Wrong ≡ number_in l
  unfolding number_in whole_at
  number_wrong h = rw (no_line_by (length l + 1) 0 (read_line [] one_tab l) h).0

-- the argument stands behind the tab
behind_tab : (n : ℕ) (a : List ℕ) → take (n + 1) (tab ∷ (a ++ [])) ≡ tab ∷ take n a
behind_tab n a =
    ap (λ (k : ℕ). take k (tab ∷ (a ++ []))) (add-one n) ∙ ap (λ (x : List ℕ). tab ∷ take n x) (append-nil a)

-- so the number is that of the argument
pub number_of_argument :
    {r : Told} (a : List ℕ) (n : ℕ) → r ≡ number_in (take (n + 1) (tab ∷ (a ++ []))) → length a ≡ most_digits →
    TellsNumber r (argued 1 (length a) (take n a) ∷ [])
number_of_argument a n e q =
    record {
      argument = take n a;
      entry = ap (λ (k : ℕ). argued 1 k (take n a) ∷ []) q;
      tells = e ∙ ap number_in (behind_tab n a);
    }
