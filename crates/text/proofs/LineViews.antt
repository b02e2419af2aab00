-- What the answers at the end of a line and for all that is left of one tell of what was read.
use Rattle.std.specs.Prelude.{Err, Ok}
use Prim.Native.Nat.{ℕ, ◌+◌, ◌<◌, ◌≤◌}
use native.Mathlib.Omega.{arith}
use mathlib.Core.Bool.{Bool, true, false, cond}
use mathlib.Core.Path.{◌≡◌, refl, sym, ap, ◌∙◌}
use mathlib.Core.List.{List}
use mathlib.Core.Option.{Option, none, some}
use lib.Dec.{ltb}
use lib.ListN.{length, get_or, drop}
use borrow.Author.Tests.{ltb-true, ltb-false}
use Rattle.facts.proofs.Steps.{drop_step, drop_end}
use Rattle.refusals.specs.declared.Refusal.{Refusal}
use Rattle.text.specs.declared.cursor.Cursor.{Cursor}
use Rattle.text.specs.declared.cursor.Fields.{Fields}
use Rattle.text.specs.Words.{most_fields}
use Rattle.text.specs.Places.{following}
use Rattle.text.specs.Numbers.{bad}
use Rattle.text.specs.Line.{read_fields, read_line}
use Rattle.text.specs.Cursors.{wrong_at, cursor_at, padded, on_line, end_at, whole_at}
use Rattle.text.proofs.Lines.{line_exact}
use Rattle.text.proofs.Answers.{padded_at}
use Rattle.text.proofs.Views.{next_refused, FieldsTaken}

-- ---- nothing more in the line

module _ (s : List ℕ) (c : Cursor) where
  end_by :
      {d : Cursor} (t : Bool) → ltb c.at (length s) ≡ t →
      cond t (Err (wrong_at c.lines)) (Ok (cursor_at (length s + 1) (following c.lines))) ≡ Ok d →
      (length s ≤ c.at) × (d ≡ cursor_at (length s + 1) (following c.lines))
  end_by true e h = next_refused (sym h)
  end_by false e h = (ltb-false c.at (length s) e, cc)

  -- where the next line is answered nothing was left
  pub end_next :
      {d : Cursor} → end_at s c ≡ Ok d →
      (length s ≤ c.at) × (d ≡ cursor_at (length s + 1) (following c.lines))
  unfolding end_at
  end_next h = end_by (ltb c.at (length s)) refl h

  more_by :
      {why : Refusal} (t : Bool) → ltb c.at (length s) ≡ t →
      cond t (Err (wrong_at c.lines)) (Ok (cursor_at (length s + 1) (following c.lines))) ≡ Err why →
      (c.at < length s) × (why ≡ wrong_at c.lines)
  more_by true e h = (ltb-true c.at (length s) e, cc)
  more_by false e h = next_refused h

  -- where a refusal is answered something was left, and it is that of the line
  pub end_refused : {why : Refusal} → end_at s c ≡ Err why → (c.at < length s) × (why ≡ wrong_at c.lines)
  unfolding end_at
  end_refused h = more_by (ltb c.at (length s)) refl h

-- ---- a line of a format

-- a line with the numbers vs was read, the values are those, and the next begins at p
pub record LineHeld (p k : ℕ) (o : Option (List ℕ)) (values : List ℕ) (d : Cursor) : Type 0 where
  pub vs : List ℕ
  pub read : o ≡ some vs
  pub holds : values ≡ padded vs
  pub there : d ≡ cursor_at p (following k)

-- number j of a line that was read is value j of the answer
pub number_at :
    (w ms l : List ℕ) {vs values : List ℕ} → read_line w ms l ≡ some vs → values ≡ padded vs → length ms ≤ most_fields →
    (j : ℕ) → j < length ms → get_or values j 0 ≡ get_or vs j 0
number_at w ms l {vs} e h few j b =
    let count = (line_exact w ms l vs e).count in
    ap (λ (x : List ℕ). get_or x j 0) h ∙ padded_at vs j (omega arith) (omega arith)

module _ (p k : ℕ) where
  pub held_by :
      {r : Fields} (o : Option (List ℕ)) → on_line p k o ≡ Ok r → LineHeld p k o r.values r.next
  held_by {r} (some vs) h =
      let er : r ≡ record { values = padded vs; next = cursor_at p (following k) } = cc in
      record { vs = vs; read = refl; holds = ap (λ (x : Fields). x.values) er; there = ap (λ (x : Fields). x.next) er }
  held_by none h = next_refused (sym h)

  pub no_line_by :
      {why : Refusal} (o : Option (List ℕ)) → on_line p k o ≡ Err why → (o ≡ none) × (why ≡ wrong_at k)
  no_line_by (some vs) h = next_refused h
  no_line_by none h = (refl, cc)

module _ (s : List ℕ) (c : Cursor) (w ms : List ℕ) where
  -- a line that is answered is all that was left
  pub whole_next :
      {r : Fields} → whole_at s c w ms ≡ Ok r →
      LineHeld (length s + 1) c.lines (read_line w ms (drop c.at s)) r.values r.next
  unfolding whole_at
  whole_next h = held_by (length s + 1) c.lines (read_line w ms (drop c.at s)) h

  -- where a refusal is answered, what was left is no line of the format, and it is that of the line
  pub whole_refused :
      {why : Refusal} → whole_at s c w ms ≡ Err why →
      (read_line w ms (drop c.at s) ≡ none) × (why ≡ wrong_at c.lines)
  unfolding whole_at
  whole_refused h = no_line_by (length s + 1) c.lines (read_line w ms (drop c.at s)) h

-- ---- all that is left, from the fields and the end

module _ (s : List ℕ) (c : Cursor) (w ms : List ℕ) where
  -- no fields, no line
  pub whole_no_fields :
      {why : Refusal} → read_fields w ms (drop c.at s) ≡ bad → why ≡ wrong_at c.lines →
      Err why ≡ whole_at s c w ms
  unfolding whole_at read_line
  whole_no_fields e f = rw (e, f)

  module _ {values : List ℕ} {d : Cursor} (k : FieldsTaken s c w ms values d) where
    -- more than the fields is no line
    pub whole_more : {why : Refusal} → d.at < length s → why ≡ wrong_at d.lines → Err why ≡ whole_at s c w ms
    unfolding whole_at read_line
    whole_more l f = rw (k.read, drop_step s d.at l, f, k.lines)

    -- the fields alone are the line
    pub whole_fields :
        {e : Cursor} → length s ≤ d.at → e ≡ cursor_at (length s + 1) (following d.lines) →
        Ok (record { values = values; next = e }) ≡ whole_at s c w ms
    unfolding whole_at read_line
    whole_fields l f = rw (k.read, drop_end s d.at l, f, k.lines, k.holds)
