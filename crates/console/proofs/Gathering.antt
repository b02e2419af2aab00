-- One byte more of the input: the next state, and what is replied.
use Prim.Native.Nat.{ℕ, ◌+◌, ◌≤◌, ◌<◌}
use mathlib.Core.Path.{◌≡◌}
use mathlib.Core.List.{List, []}
use lib.ListN.{take, set}
use borrow.Author.Tests.{lt-ltb, le-ltb, le-leb, lt-leb, eq-eqb, ne_eqb}
use Rattle.refusals.specs.declared.Refusal.TheVariants.{TextStops}
use Rattle.text.specs.Words.{newline}
use Rattle.text.specs.Places.{following}
use Rattle.text.specs.Cursors.{wrong_at}
use Rattle.console.specs.declared.gather.Gathering.{Gathering}
use Rattle.console.specs.Heads.{most_bytes}
use Rattle.console.specs.Lines.{refused_line}
use Rattle.console.specs.Replies.{line_reply}
use Rattle.console.specs.Gathered.{gathering, step, last_reply, reply_at, said}

module _ (g : Gathering) (b : ℕ) where
  -- a newline begins the next line
  pub step_newline : b ≡ newline → step g b ≡ gathering g.held 0 (following g.lines)
  unfolding step
  step_newline e = rw (eq-eqb b newline e)

  -- another byte is held where there is room for it
  pub step_held :
      (b ≡ newline → ⊥) → g.count < most_bytes →
      step g b ≡ gathering (set g.held g.count b) (g.count + 1) g.lines
  unfolding step
  step_held e h = rw (ne_eqb b newline e, lt-ltb g.count most_bytes h)

  -- and else the line is too long
  pub step_over : (b ≡ newline → ⊥) → most_bytes ≤ g.count → step g b ≡ gathering g.held (most_bytes + 1) g.lines
  unfolding step
  step_over e h = rw (ne_eqb b newline e, le-ltb g.count most_bytes h)

-- at the end of input a line that is begun is refused, and none is replied to else
pub last_none : (g : Gathering) → g.count ≡ 0 → [] ≡ last_reply g
unfolding last_reply
last_none g e = rw (eq-eqb g.count 0 e)

pub last_part : (g : Gathering) → (g.count ≡ 0 → ⊥) → refused_line (TextStops g.lines) ≡ last_reply g
unfolding last_reply
last_part g e = rw (ne_eqb g.count 0 e)

module _ (answer : List ℕ → List ℕ) (g : Gathering) where
  -- but for a newline nothing is replied
  pub said_none : (b : ℕ) → (b ≡ newline → ⊥) → [] ≡ said answer g b
  unfolding said
  said_none b e = rw (ne_eqb b newline e)

  -- at a newline the line is
  pub said_line : (b : ℕ) → b ≡ newline → reply_at answer g ≡ said answer g b
  unfolding said
  said_line b e = rw (eq-eqb b newline e)

  -- a line that is too long is refused
  pub reply_over : most_bytes < g.count → refused_line (wrong_at g.lines) ≡ reply_at answer g
  unfolding reply_at
  reply_over h = rw (lt-leb g.count most_bytes h)

  -- and else replied to
  pub reply_held : g.count ≤ most_bytes → line_reply answer g.lines (take g.count g.held) ≡ reply_at answer g
  unfolding reply_at
  reply_held h = rw (le-leb g.count most_bytes h)
