-- The number that an argument says. Definitions only.
--   number_in l        the number of the line l, which has a tab and a number; wrong where it is no such line
--   most_digits       the most digits of a number of 32 bits
--   TellsNumber r es  the first argument is asked for, of at most so many bytes, and r is its number
use Rattle.system.specs.Said.{Number, Wrong, Told}
use Rattle.std.specs.Prelude.{ℕ, ◌≡◌, List, [], ◌∷◌, get_or}
use Rattle.std.proofs.Math.Option.{Option, none, some}
use Rattle.text.specs.Words.{tab, one_tab}
use Rattle.text.specs.Line.{read_line}
use Rattle.ledger.specs.Ledger.{Entry, argued}

abbrev pub on_told : Option (List ℕ) → Told
on_told none = Wrong
on_told (some values) = Number (get_or values 0 0)

unfoldable pub number_in : List ℕ → Told
number_in l = on_told (read_line [] one_tab l)

abbrev pub most_digits : ℕ
most_digits = 10

pub record TellsNumber (r : Told) (es : List Entry) : Type 0 where
  pub argument : List ℕ
  pub entry : es ≡ argued 1 most_digits argument ∷ []
  pub tells : r ≡ number_in (tab ∷ argument)
