-- Reading on from a cursor. Definitions only.
--   Stands s c                   the cursor c stands in the text s, behind at least as many bytes as lines
--   read_on step finish st s c    what reading the text s from the cursor c on comes to, from the state st on
use Rattle.std.specs.Prelude.{ℕ, ◌≤◌, List, length, drop}
use Rattle.std.proofs.Math.Option.{Option}
use Rattle.text.specs.declared.cursor.Cursor.{Cursor}
use Rattle.text.specs.Text.{split, Reading, read_all}

pub record Stands (s : List ℕ) (c : Cursor) : Type 0 where
  pub inside : c.at ≤ length s
  pub behind : c.lines ≤ c.at

abbrev pub read_on : {S R : Type 0} → (S → List ℕ → Option S) → (S → Option R) → S → List ℕ → Cursor → Reading R
read_on step finish st s c = read_all step finish st c.lines (split (drop c.at s))
