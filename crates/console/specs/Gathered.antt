-- How input bytes become lines, byte by byte, and what is replied on the way. Definitions only. A line that is too long
-- is not held: it is known by a count above the most bytes of a line.
--   begun                the state before the first byte
--   step g b             the state g after the byte b
--   reply_at answer g    what is replied to the line that g holds, once it is whole
--   said answer g b      what is replied at the byte b: nothing unless it is a newline
--   after g bs           the state after the bytes bs
--   answers answer g bs  what is replied to them
--   last_reply g         what is replied at the end of input: nothing, or 10 to a last part without newline
--   replies answer k ls t    what is replied to the whole lines ls and the last part t, k lines standing before them
--   input_replies answer s   what is replied to the whole input s
use Rattle.std.specs.Prelude.{ℕ, ◌+◌, cond, List, [], ◌∷◌, ◌++◌, take, set, replicate, ltb, leb, eqb}
use Rattle.refusals.specs.declared.Refusal.TheVariants.{TextStops}
use Rattle.text.specs.Words.{newline}
use Rattle.text.specs.Places.{following}
use Rattle.text.specs.Text.{Text, whole, split}
use Rattle.text.specs.Cursors.{wrong_at}
use Rattle.console.specs.declared.gather.Gathering.{Gathering}
use Rattle.console.specs.Heads.{most_bytes}
use Rattle.console.specs.Lines.{refused_line}
use Rattle.console.specs.Replies.{line_reply}

abbrev pub gathering : List ℕ → ℕ → ℕ → Gathering
gathering bs n k = record { held = bs; count = n; lines = k }

unfoldable pub begun : Gathering
begun = gathering (replicate most_bytes 0) 0 0

unfoldable pub step : Gathering → ℕ → Gathering
step g b =
    cond (eqb b newline) (gathering g.held 0 (following g.lines))
    (cond (ltb g.count most_bytes) (gathering (set g.held g.count b) (g.count + 1) g.lines)
    (gathering g.held (most_bytes + 1) g.lines))

unfoldable pub last_reply : Gathering → List ℕ
last_reply g = cond (eqb g.count 0) [] (refused_line (TextStops g.lines))

unfoldable pub after : Gathering → List ℕ → Gathering
after g [] = g
after g (b ∷ bs) = after (step g b) bs

abbrev pub on_last : ℕ → List ℕ → List ℕ
on_last k [] = []
on_last k (b ∷ bs) = refused_line (TextStops k)

module _ (answer : List ℕ → List ℕ) where
  unfoldable pub reply_at : Gathering → List ℕ
  reply_at g =
      cond (leb g.count most_bytes) (line_reply answer g.lines (take g.count g.held))
      (refused_line (wrong_at g.lines))

  unfoldable pub said : Gathering → ℕ → List ℕ
  said g b = cond (eqb b newline) (reply_at g) []

  unfoldable pub answers : Gathering → List ℕ → List ℕ
  answers g [] = []
  answers g (b ∷ bs) = said g b ++ answers (step g b) bs

  unfoldable pub replies : ℕ → List (List ℕ) → List ℕ → List ℕ
  replies k [] t = on_last k t
  replies k (l ∷ ls) t = line_reply answer k l ++ replies (following k) ls t

  abbrev pub on_text : ℕ → Text → List ℕ
  on_text k (whole ls t) = replies k ls t

  unfoldable pub input_replies : List ℕ → List ℕ
  input_replies s = on_text 0 (split s)
