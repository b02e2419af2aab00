-- From a line that stands at the cursor, or none, to what the text says from there on, for any reader.
use Prim.Native.Nat.{ℕ, ◌+◌, ◌^◌, ◌≤◌, ◌<◌}
use native.Mathlib.Omega.{arith}
use mathlib.Core.Path.{◌≡◌, sym, ap, ◌∙◌}
use mathlib.Core.Option.{Option, none, some}
use mathlib.Core.List.{List, [], ◌∷◌}
use lib.ListN.{length, drop, length-append, length-drop}
use Rattle.refusals.specs.declared.Refusal.{Refusal}
use Rattle.refusals.specs.declared.Refusal.TheVariants.{LineWrong, TextStops}
use Rattle.text.specs.declared.cursor.Cursor.{Cursor}
use Rattle.text.specs.Words.{newline}
use Rattle.text.specs.Places.{following}
use Rattle.text.specs.Line.{read_line}
use Rattle.text.specs.Text.{good, refused, line, no_line, next_from}
use Rattle.text.specs.Cursors.{wrong_at, cursor_at}
use Rattle.text.specs.Onward.{Stands, read_on}
use Rattle.text.proofs.Places.{after_few}
use Rattle.text.proofs.Runs.{run_moved, run_stuck, run_short, over_more, over_done}
use Rattle.text.proofs.NextLines.{next_text, LineRefused, stops, wrongs}

-- the cursor before the first line stands in the text
pub top_stands : (s : List ℕ) → Stands s (cursor_at 0 0)
top_stands s = record { inside = omega arith; behind = omega arith }

module _ {s : List ℕ} {c : Cursor} (small : length s < 2 ^ 63) (stands : Stands s c) where
  -- the line after those before the cursor
  one_more : following c.lines ≡ c.lines + 1
  one_more = after_few c.lines 1 (omega (arith, stands.inside, stands.behind))

  -- a cursor behind the line that it stood at stands in the text
  pub next_stands :
      {l : List ℕ} {d : Cursor} → next_from [] (drop c.at s) ≡ line l (drop d.at s) → d.at ≤ length s →
      d.lines ≡ following c.lines → Stands s d
  next_stands {l} {d} e h q =
      let here : length (drop c.at s) ≡ length l + length (newline ∷ drop d.at s) =
      ap length (next_text (drop c.at s) l (drop d.at s) e) ∙ length-append l (newline ∷ drop d.at s) in
      let from = length-drop c.at s in
      let to = length-drop d.at s in
      record {
        inside = h;
        behind = omega (arith, here, from, to, q, one_more, stands.inside, stands.behind);
      }

  module _ {S R : Type 0} (step : S → List ℕ → Option S) (finish : S → Option R) (st : S) where
    -- a line that makes a state of another is read on behind it
    pub on_next :
        {l : List ℕ} (d : Cursor) (st' : S) → next_from [] (drop c.at s) ≡ line l (drop d.at s) →
        d.lines ≡ following c.lines → step st l ≡ some st' → read_on step finish st s c ≡ read_on step finish st' s d
    on_next {l} d st' e q h =
        run_moved step finish st st' c.lines (drop c.at s) l (drop d.at s) e h ∙
        ap (λ (k : ℕ). read_on step finish st' s (cursor_at d.at k)) (sym (q ∙ one_more))

    -- a line that a state does not take is refused
    pub on_wrong :
        {l rest : List ℕ} {why : Refusal} → next_from [] (drop c.at s) ≡ line l rest → step st l ≡ none →
        why ≡ wrong_at c.lines → read_on step finish st s c ≡ refused why
    on_wrong {l} {rest} e h q =
        run_stuck step finish st c.lines (drop c.at s) l rest e h ∙
        ap (λ (k : ℕ). refused (LineWrong k)) (sym one_more) ∙ ap refused (sym q)

    -- where there is no whole line the text stops, unless the state takes no more
    pub on_stops :
        {why : Refusal} → finish st ≡ none → next_from [] (drop c.at s) ≡ no_line → why ≡ TextStops c.lines →
        read_on step finish st s c ≡ refused why
    on_stops f e q = run_short step finish st c.lines (drop c.at s) e f ∙ ap refused (sym q)

    -- where no line of a format was taken, and the state takes no other, the refusal is the text's
    pub not_taken :
        {w ms : List ℕ} {why : Refusal} → LineRefused s c w ms why → finish st ≡ none →
        ((l : List ℕ) → read_line w ms l ≡ none → step st l ≡ none) → read_on step finish st s c ≡ refused why
    not_taken (stops e q) f only = on_stops f e q
    not_taken (wrongs this rest e miss q) f only = on_wrong e (only this miss) q

    -- what stands behind the end line is refused
    pub more_wrong :
        {why : Refusal} (r : R) → finish st ≡ some r → ((l : List ℕ) → step st l ≡ none) → c.at < length s →
        why ≡ wrong_at c.lines → read_on step finish st s c ≡ refused why
    more_wrong r f last h q =
        over_more step finish st r c.lines s c.at f last h ∙
        ap (λ (k : ℕ). refused (LineWrong k)) (sym one_more) ∙ ap refused (sym q)

-- where nothing stands behind the end line the text says what the state holds
pub none_more :
    {S R : Type 0} (step : S → List ℕ → Option S) (finish : S → Option R) (st : S) (r : R) (s : List ℕ) (c : Cursor) →
    finish st ≡ some r → length s ≤ c.at → read_on step finish st s c ≡ good r
none_more step finish st r s c f h = over_done step finish st r c.lines s c.at f h
