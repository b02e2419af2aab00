-- What the answers for a word and for a line's fields tell of what was read.
use Rattle.std.specs.Prelude.{Err, Ok, Result}
use Prim.Native.Nat.{ℕ, ◌≤◌}
use native.Mathlib.Omega.{arith}
use mathlib.Core.Path.{◌≡◌, refl, sym, ap, ◌∙◌}
use mathlib.Core.List.{List, [], ◌++◌, append_assoc}
use lib.ListN.{length, drop}
use Rattle.refusals.specs.declared.Refusal.{Refusal}
use Rattle.text.specs.declared.cursor.Cursor.{Cursor}
use Rattle.text.specs.declared.cursor.Fields.{Fields}
use Rattle.text.specs.Places.{within, place_in}
use Rattle.text.specs.Numbers.{Got, got, bad}
use Rattle.text.specs.Line.{read_word, read_fields, print_fields, print_line}
use Rattle.text.specs.Cursors.{wrong_at, cursor_at, padded, on_word, on_fields, word_at}
use Rattle.text.specs.Cursors.{marks_at, fields_at}
use Rattle.text.proofs.Places.{drop_within}
use Rattle.text.proofs.Numbers.{bad_got}
use Rattle.text.proofs.Lines.{word_exact, fields_exact}
use Rattle.text.proofs.Behind.{left_at, left_in}

-- an answer is no refusal
pub next_refused : {T A : Type 0} {x : T} {why : Refusal} → ◌≡◌ {A = Result T Refusal} (Ok x) (Err why) → A
next_refused e = let z : ◌≡◌ {A = ℕ} 0 1 = cc in absurd (omega arith)

-- ---- a word

-- the word w stands at the cursor c, and d is behind it
pub record WordRead (s : List ℕ) (c : Cursor) (w : List ℕ) (d : Cursor) : Type 0 where
  pub read : read_word w (drop c.at s) ≡ got tt (drop d.at s)
  pub within : d.at ≤ length s
  pub lines : d.lines ≡ c.lines

module _ (s : List ℕ) (c : Cursor) (w : List ℕ) where
  word_by :
      {d : Cursor} (g : Got (Unit {0})) → read_word w (drop c.at s) ≡ g → on_word s c.lines g ≡ Ok d →
      WordRead s c w d
  word_by {d} (got u rest) e h =
      let ed : cursor_at (place_in s rest) c.lines ≡ d = cc in
      let there : drop (place_in s rest) s ≡ rest = left_at s w rest c.at (word_exact w (drop c.at s) rest e) in
      rw (← ed) (record { read = e ∙ ap (got tt) (sym there); within = left_in s rest; lines = refl })
  word_by bad e h = next_refused (sym h)

  -- a word that is answered was read
  pub word_next : {d : Cursor} → word_at s c w ≡ Ok d → WordRead s c w d
  unfolding word_at
  word_next h = word_by (read_word w (drop c.at s)) refl h

  no_word_by :
      {why : Refusal} (g : Got (Unit {0})) → on_word s c.lines g ≡ Err why →
      (g ≡ bad) × (why ≡ wrong_at c.lines)
  no_word_by (got u rest) h = next_refused h
  no_word_by bad h = (refl, cc)

  -- where a refusal is answered the word was not there, and it is that of the line
  pub word_refused :
      {why : Refusal} → word_at s c w ≡ Err why →
      (read_word w (drop c.at s) ≡ bad) × (why ≡ wrong_at c.lines)
  unfolding word_at
  word_refused h = no_word_by (read_word w (drop c.at s)) h

-- ---- fields

-- a word and its numbers are what they would be written as
fields_front :
    (w ms l vs rest : List ℕ) (g : Got (Unit {0})) → read_word w l ≡ g → read_fields w ms l ≡ got vs rest →
    l ≡ print_line w ms vs ++ rest
unfolding print_line print_fields
fields_front w ms l vs rest (got u r) e h =
    let f = fields_exact [] ms [] r vs rest refl tt (rw e at h) in
    word_exact w l r e ∙ ap (λ (x : List ℕ). w ++ x) f.text ∙ sym (append_assoc w (print_fields ms vs) rest)
fields_front w ms l vs rest bad e h = bad_got (rw e at h)

-- the word w and numbers stand at the cursor c, the values are those numbers, and d is behind them
pub record FieldsTaken (s : List ℕ) (c : Cursor) (w ms values : List ℕ) (d : Cursor) : Type 0 where
  pub vs : List ℕ
  pub read : read_fields w ms (drop c.at s) ≡ got vs (drop d.at s)
  pub holds : values ≡ padded vs
  pub within : d.at ≤ length s
  pub lines : d.lines ≡ c.lines

module _ (s : List ℕ) (c : Cursor) (w ms : List ℕ) where
  fields_by :
      {r : Fields} (g : Got (List ℕ)) → read_fields w ms (drop c.at s) ≡ g → on_fields s c.lines g ≡ Ok r →
      FieldsTaken s c w ms r.values r.next
  fields_by {r} (got vs rest) e h =
      let er : record { values = padded vs; next = cursor_at (place_in s rest) c.lines } ≡ r = cc in
      let there : drop (place_in s rest) s ≡ rest =
      left_at s (print_line w ms vs) rest c.at
      (fields_front w ms (drop c.at s) vs rest (read_word w (drop c.at s)) refl e) in
      rw (← er)
      (record { vs = vs; read = e ∙ ap (got vs) (sym there); holds = refl; within = left_in s rest; lines = refl })
  fields_by bad e h = next_refused (sym h)

  -- fields that are answered were read
  pub fields_next :
      {r : Fields} → fields_at s c w ms ≡ Ok r → FieldsTaken s c w ms r.values r.next
  unfolding fields_at
  fields_next h = fields_by (read_fields w ms (drop c.at s)) refl h

  no_fields_by :
      {why : Refusal} (g : Got (List ℕ)) → on_fields s c.lines g ≡ Err why → (g ≡ bad) × (why ≡ wrong_at c.lines)
  no_fields_by (got vs rest) h = next_refused h
  no_fields_by bad h = (refl, cc)

  -- where a refusal is answered they were not there, and it is that of the line
  pub fields_refused :
      {why : Refusal} → fields_at s c w ms ≡ Err why →
      (read_fields w ms (drop c.at s) ≡ bad) × (why ≡ wrong_at c.lines)
  unfolding fields_at
  fields_refused h = no_fields_by (read_fields w ms (drop c.at s)) h

-- ---- fields, from the word and the numbers

module _ (s : List ℕ) (c : Cursor) (w ms : List ℕ) {p : ℕ} (near : p ≡ within c.at (length s)) where
  -- behind the word the numbers decide
  pub fields_of_marks : {d : Cursor} → WordRead s (cursor_at p c.lines) w d → marks_at s d ms ≡ fields_at s c w ms
  unfolding marks_at fields_at
  fields_of_marks k = rw (← drop_within s c.at, ← near, k.read, k.lines)

  -- without the word there are no fields
  pub fields_of_none :
      {why : Refusal} → read_word w (drop p s) ≡ bad → why ≡ wrong_at c.lines → Err why ≡ fields_at s c w ms
  unfolding fields_at
  fields_of_none e f = rw (← drop_within s c.at, ← near, e, f)
