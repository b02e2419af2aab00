-- What the answers for the next newline and for the next line tell of the text.
use Rattle.std.specs.Prelude.{Err, Ok}
use Prim.Native.Nat.{ℕ, suc, ◌+◌, ◌-◌, ◌<◌, ◌≤◌}
use native.Mathlib.Omega.{arith}
use mathlib.Core.Path.{◌≡◌, refl, sym, ap, ◌∙◌}
use mathlib.Core.List.{List, [], ◌∷◌, ◌++◌, append_assoc}
use mathlib.Core.Option.{none, some}
use lib.ListN.{length, take, drop, length-append, length-drop}
use lib.Seq.{take-add, take-append_seam, drop-append_seam, drop-drop, drop_at, length-take-le}
use Rattle.refusals.specs.declared.Refusal.{Refusal}
use Rattle.refusals.specs.declared.Refusal.TheVariants.{TextStops}
use Rattle.text.specs.declared.cursor.Cursor.{Cursor}
use Rattle.text.specs.declared.cursor.Fields.{Fields}
use Rattle.text.specs.Words.{newline}
use Rattle.text.specs.Places.{following, place_in}
use Rattle.text.specs.Line.{read_line}
use Rattle.text.specs.Text.{line, no_line, next_from}
use Rattle.text.specs.Text as text
use Rattle.text.specs.Cursors.{wrong_at, padded, on_end, on_next, whole_at, line_end_at, line_at}
use Rattle.text.proofs.Places.{place_left}
use Rattle.text.proofs.Texts.{next_found}
use Rattle.text.proofs.Behind.{left_at, left_in}
use Rattle.text.proofs.Views.{next_refused}
use Rattle.text.proofs.LineViews.{held_by, no_line_by}

-- where a line is found its newline stands behind it
pub next_text : (s l rest : List ℕ) → next_from [] s ≡ line l rest → s ≡ l ++ (newline ∷ rest)
next_text s l rest e = (next_found [] s l rest tt e).text

-- the line that begins at the cursor c, and its newline at `end`
pub record EndAt (s : List ℕ) (c : Cursor) (end : ℕ) : Type 0 where
  pub this : List ℕ
  pub next : next_from [] (drop c.at s) ≡ line this (drop (end + 1) s)
  pub part : drop c.at (take end s) ≡ this
  pub from : c.at ≤ end
  pub within : end < length s

module _ (s : List ℕ) (at : ℕ) (l rest : List ℕ) (e : drop at s ≡ l ++ (newline ∷ rest)) where
  sizes : length s - at ≡ length l + suc (length rest)
  sizes = sym (length-drop at s) ∙ ap length e ∙ length-append l (newline ∷ rest)

  -- what is left behind it
  behind : drop (at + length l + 1) s ≡ rest
  behind =
      let k : at + length l + 1 ≡ at + (length l + 1) = omega arith in
      let front : drop at s ≡ (l ++ (newline ∷ [])) ++ rest = e ∙ sym (append_assoc l (newline ∷ []) rest) in
      let size : length l + 1 ≡ length (l ++ (newline ∷ [])) = sym (length-append l (newline ∷ [])) in
      rw (k, ← drop-drop (length l + 1) at s, front, size) (drop-append_seam (l ++ (newline ∷ [])) rest)

  -- the line itself, as the part of the text before its newline
  part_of_lem : drop at (take (at + length l) s) ≡ l
  part_of_lem =
      let near : length (take at s) ≡ at = length-take-le at s (omega (arith, sizes)) in
      rw (take-add at (length l) s, drop_at (take at s) (take (length l) (drop at s)) at near, e)
      (take-append_seam l (newline ∷ rest))

module _ (s : List ℕ) (c : Cursor) where
  end_by :
      {p : ℕ} (n : text.Next) → next_from [] (drop c.at s) ≡ n → on_end c.at c.lines n ≡ Ok p →
      EndAt s c p
  end_by {p} (line l rest) e h =
      let ep : c.at + length l ≡ p = cc in
      let t = next_text (drop c.at s) l rest e in
      rw (← ep)
      (record {
        this = l;
        next = e ∙ ap (line l) (sym (behind s c.at l rest t));
        part = part_of_lem s c.at l rest t;
        from = omega arith;
        within = omega (arith, sizes s c.at l rest t);
      })
  end_by no_line e h = let z : ◌≡◌ {A = ℕ} 0 1 = cc in absurd (omega arith)

  -- the newline that is answered ends the line at the cursor
  pub line_end_at_lem : {p : ℕ} → line_end_at s c ≡ Ok p → EndAt s c p
  unfolding line_end_at
  line_end_at_lem h = end_by (next_from [] (drop c.at s)) refl h

  no_end_by :
      {why : Refusal} (n : text.Next) → on_end c.at c.lines n ≡ Err why →
      (n ≡ no_line) × (why ≡ TextStops c.lines)
  no_end_by (line l rest) h = let z : ◌≡◌ {A = ℕ} 0 1 = cc in absurd (omega arith)
  no_end_by no_line h = (refl, cc)

  -- where a refusal is answered there is no newline, and it is 10 with the lines before
  pub line_end_refused :
      {why : Refusal} → line_end_at s c ≡ Err why →
      (next_from [] (drop c.at s) ≡ no_line) × (why ≡ TextStops c.lines)
  unfolding line_end_at
  line_end_refused h = no_end_by (next_from [] (drop c.at s)) h

-- ---- the next line, of a format

-- a line of the format stands at the cursor c, the values are its numbers, and d is behind its newline
pub record Taken (s : List ℕ) (c : Cursor) (w ms : List ℕ) (d : Cursor) (values : List ℕ) : Type 0 where
  pub this : List ℕ
  pub vs : List ℕ
  pub next : next_from [] (drop c.at s) ≡ line this (drop d.at s)
  pub read : read_line w ms this ≡ some vs
  pub holds : values ≡ padded vs
  pub within : d.at ≤ length s
  pub count : d.lines ≡ following c.lines

-- there is no whole line at the cursor c; or there is one, and it is not of the format
pub data LineRefused (s : List ℕ) (c : Cursor) (w ms : List ℕ) (why : Refusal) : Type 0 where
  stops : next_from [] (drop c.at s) ≡ no_line → why ≡ TextStops c.lines → LineRefused s c w ms why
  wrongs :
      (this rest : List ℕ) → next_from [] (drop c.at s) ≡ line this rest → read_line w ms this ≡ none →
      why ≡ wrong_at c.lines → LineRefused s c w ms why

module _ (s : List ℕ) (c : Cursor) (w ms : List ℕ) where
  taken_by :
      {r : Fields} (n : text.Next) → next_from [] (drop c.at s) ≡ n → on_next s c.lines w ms n ≡ Ok r →
      Taken s c w ms r.next r.values
  taken_by (line l rest) e h =
      let k = held_by (place_in s rest) c.lines (read_line w ms l) h in
      let t = next_text (drop c.at s) l rest e in
      let front = t ∙ sym (append_assoc l (newline ∷ []) rest) in
      let left : drop (place_in s rest) s ≡ rest = left_at s (l ++ (newline ∷ [])) rest c.at front in
      record {
        this = l;
        vs = k.vs;
        next = e ∙ ap (line l) (sym left) ∙ ap (λ (x : Cursor). line l (drop x.at s)) (sym k.there);
        read = k.read;
        holds = k.holds;
        within = rw k.there (left_in s rest);
        count = ap (λ (x : Cursor). x.lines) k.there;
      }
  taken_by no_line e h = next_refused (sym h)

  -- a line that is answered was read
  pub line_next : {r : Fields} → line_at s c w ms ≡ Ok r → Taken s c w ms r.next r.values
  unfolding line_at
  line_next h = taken_by (next_from [] (drop c.at s)) refl h

  refused_by :
      {why : Refusal} (n : text.Next) → next_from [] (drop c.at s) ≡ n → on_next s c.lines w ms n ≡ Err why →
      LineRefused s c w ms why
  refused_by (line l rest) e h =
      let k = no_line_by (place_in s rest) c.lines (read_line w ms l) h in wrongs l rest e k.0 k.1
  refused_by no_line e h = stops e cc

  -- where a refusal is answered no line was there, or a wrong one
  pub line_refused :
      {why : Refusal} → line_at s c w ms ≡ Err why → LineRefused s c w ms why
  unfolding line_at
  line_refused h = refused_by (next_from [] (drop c.at s)) refl h

-- the next line is the part of the text before its newline, as a line by itself
pub line_of_whole :
    (s : List ℕ) (c : Cursor) (w ms : List ℕ) {p : ℕ} → EndAt s c p → whole_at (take p s) c w ms ≡ line_at s c w ms
unfolding whole_at line_at
line_of_whole s c w ms {p} k =
    let size : length (take p s) ≡ p = length-take-le p s (omega (arith, k.within)) in
    rw (size, k.part, k.next, place_left s (p + 1) (omega (arith, k.within)))

-- where there is no newline no line is answered
pub line_of_none :
    (s : List ℕ) (c : Cursor) (w ms : List ℕ) {why : Refusal} → next_from [] (drop c.at s) ≡ no_line →
    why ≡ TextStops c.lines → Err why ≡ line_at s c w ms
unfolding line_at
line_of_none s c w ms e f = rw (e, f)
