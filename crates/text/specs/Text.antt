-- A text as lines, each ended by one newline byte, and a last part that has none; and reading it line by line.
-- Definitions only.
--   Text, split s        the whole lines of s without their newlines, and the last part
--   unlines ls           the lines, each with its newline
--   Next, next_from l s   the first line of s, l being what was passed of it, and what follows it; or no whole line
--   Reading              what reading a text comes to: what it says, or a refusal
--   run step finish st k ls t    the lines ls and the last part t, from the state st on, k lines being read. `step`
--                        says what a line makes of a state, or that it is wrong; `finish` what a state that takes no
--                        more lines holds. 9 at a wrong line or at what follows the end; 10 where the text stops before
use Rattle.std.specs.Prelude.{ℕ, ◌+◌, cond, List, [], ◌∷◌, ◌++◌, eqb}
use Rattle.std.proofs.Math.Option.{Option, none, some}
use Rattle.refusals.specs.declared.Refusal.{Refusal}
use Rattle.refusals.specs.declared.Refusal.TheVariants.{LineWrong, TextStops}
use Rattle.text.specs.Words.{newline}

pub data Text : Type 0 where
  whole : List (List ℕ) → List ℕ → Text

abbrev pub before : ℕ → Text → Text
before b (whole [] t) = whole [] (b ∷ t)
before b (whole (l ∷ ls) t) = whole ((b ∷ l) ∷ ls) t

abbrev pub above : List ℕ → Text → Text
above l (whole ls t) = whole (l ∷ ls) t

unfoldable pub split : List ℕ → Text
split [] = whole [] []
split (b ∷ bs) = cond (eqb b newline) (above [] (split bs)) (before b (split bs))

abbrev pub lines_of : Text → List (List ℕ)
lines_of (whole ls t) = ls

unfoldable pub unlines : List (List ℕ) → List ℕ
unlines [] = []
unlines (l ∷ ls) = l ++ (newline ∷ unlines ls)

pub data Next : Type 0 where
  line : List ℕ → List ℕ → Next
  no_line : Next

unfoldable pub next_from : List ℕ → List ℕ → Next
next_from l [] = no_line
next_from l (b ∷ bs) = cond (eqb b newline) (line l bs) (next_from (l ++ (b ∷ [])) bs)

pub data Reading (R : Type 0) : Type 0 where
  good : R → Reading R
  refused : Refusal → Reading R

abbrev pub at_end : {R : Type 0} → Option R → ℕ → List ℕ → Reading R
at_end none k t = refused (TextStops k)
at_end (some r) k [] = good r
at_end (some r) k (b ∷ bs) = refused (LineWrong (k + 1))

abbrev pub on_step : {S R : Type 0} → Option S → ℕ → (S → Reading R) → Reading R
on_step none k go = refused (LineWrong (k + 1))
on_step (some st) k go = go st

module _ {S R : Type 0} (step : S → List ℕ → Option S) (finish : S → Option R) where
  unfoldable pub run : S → ℕ → List (List ℕ) → List ℕ → Reading R
  run st k [] t = at_end (finish st) k t
  run st k (l ∷ ls) t = on_step (step st l) k (λ st'. run st' (k + 1) ls t)

  abbrev pub read_all : S → ℕ → Text → Reading R
  read_all st k (whole ls t) = run st k ls t
