-- What the answers for a word and for numbers behind separators tell of what was read, and the loop over several.
use Rattle.std.specs.Prelude.{Err, Ok}
use Prim.Native.Nat.{ℕ, ◌+◌, ◌-◌, ◌<◌, ◌≤◌}
use native.Mathlib.Omega.{arith}
use mathlib.Core.Path.{◌≡◌, refl, sym, ap, ◌∙◌}
use mathlib.Core.List.{List, [], ◌∷◌, ◌++◌}
use lib.ListN.{length, get_or, drop, set, replicate, length-append, length-drop, drop_of_length-le}
use lib.Seq.{drop-drop, drop-append_seam}
use Rattle.facts.proofs.Cases.{WithinOrOver, within_or_over, at_most, over}
use Rattle.facts.proofs.Steps.{drop_step, drop_end}
use Rattle.facts.proofs.Setting.{sets_append}
use Rattle.refusals.specs.declared.Refusal.{Refusal}
use Rattle.text.specs.declared.cursor.Cursor.{Cursor}
use Rattle.text.specs.Words.{most_fields}
use Rattle.text.specs.Places.{place_in}
use Rattle.text.specs.Numbers.{Got, got, bad, digits_of}
use Rattle.text.specs.Line.{read_behind, fields_from}
use Rattle.text.specs.Cursors.{wrong_at, cursor_at, padded, on_number, behind_at}
use Rattle.text.proofs.Parts.{behind_exact}

-- where what is left begins, it is left
pub left_at : (s front rest : List ℕ) (at : ℕ) → drop at s ≡ front ++ rest → drop (place_in s rest) s ≡ rest
unfolding place_in
left_at s front rest at e = go (within_or_over at (length s))
  where
    sizes : length s - at ≡ length front + length rest
    sizes = sym (length-drop at s) ∙ ap length e ∙ length-append front rest

    go : WithinOrOver at (length s) → drop (length s - length rest) s ≡ rest
    go (at_most l) =
        let p : length s - length rest ≡ at + length front = omega (arith, sizes) in
        rw p (sym (drop-drop (length front) at s) ∙ ap (drop (length front)) e ∙ drop-append_seam front rest)
    go (over l) =
        let n : length rest ≡ 0 = omega (arith, sizes) in
        let p : length s - length rest ≡ length s = omega (arith, n) in
        rw p
        (drop_of_length-le s {i = length s} (omega arith) ∙ sym (drop_of_length-le rest {i = 0} (omega (arith, n))))

-- where it begins is within the text
pub left_in : (s rest : List ℕ) → place_in s rest ≤ length s
unfolding place_in
left_in s rest = omega arith

-- the number v stands behind the separator m at the cursor c, and d is behind it
pub record NumberRead (s : List ℕ) (c : Cursor) (m v : ℕ) (d : Cursor) : Type 0 where
  pub read : read_behind m (drop c.at s) ≡ got v (drop d.at s)
  pub within : d.at ≤ length s
  pub lines : d.lines ≡ c.lines

module _ (s : List ℕ) (c : Cursor) (m : ℕ) where
  value_by :
      {v : ℕ} {d : Cursor} (g : Got ℕ) → read_behind m (drop c.at s) ≡ g →
      on_number s c.lines g ≡ Ok (v, d) → NumberRead s c m v d
  value_by {v} {d} (got u rest) e h =
      let same : (u, cursor_at (place_in s rest) c.lines) ≡ (v, d) = cc in
      let eu : u ≡ v = ap (λ (x : ℕ × Cursor). x.0) same in
      let ed : cursor_at (place_in s rest) c.lines ≡ d = ap (λ (x : ℕ × Cursor). x.1) same in
      let there : drop (place_in s rest) s ≡ rest =
      left_at s (m ∷ digits_of u) rest c.at (behind_exact m (drop c.at s) u rest e).0 in
      rw (← ed, ← eu) (record { read = e ∙ ap (got u) (sym there); within = left_in s rest; lines = refl })
  value_by bad e h = let z : ◌≡◌ {A = ℕ} 0 1 = cc in absurd (omega arith)

  -- a value that is answered was read
  pub behind_value : {v : ℕ} {d : Cursor} → behind_at s c m ≡ Ok (v, d) → NumberRead s c m v d
  unfolding behind_at
  behind_value h = value_by (read_behind m (drop c.at s)) refl h

  refused_by :
      {why : Refusal} (g : Got ℕ) → on_number s c.lines g ≡ Err why →
      (g ≡ bad) × (why ≡ wrong_at c.lines)
  refused_by (got u rest) h = let z : ◌≡◌ {A = ℕ} 0 1 = cc in absurd (omega arith)
  refused_by bad h = (refl, cc)

  -- where a refusal is answered nothing was read, and it is that of the line
  pub behind_refused :
      {why : Refusal} → behind_at s c m ≡ Err why →
      (read_behind m (drop c.at s) ≡ bad) × (why ≡ wrong_at c.lines)
  unfolding behind_at
  behind_refused h = refused_by (read_behind m (drop c.at s)) h

-- ---- several numbers

-- what is left to read of the numbers that begin at `start`: the first i stand before `at`, and the values are those
pub record MarksLeft (s ms : List ℕ) (start i at : ℕ) (values : List ℕ) : Type 0 where
  pub so_far : List ℕ
  pub left : fields_from [] ms (drop start s) ≡ fields_from so_far (drop i ms) (drop at s)
  pub size : length so_far ≡ i
  pub held : values ≡ padded so_far
  pub within : at ≤ length s
  pub upto : i ≤ length ms

module _
    {s ms : List ℕ} {start i at : ℕ} {values : List ℕ} (k : MarksLeft s ms start i at values) (l : i < length ms) where
  -- one number more
  pub marks_step :
      {lines v : ℕ} {d : Cursor} {after : List ℕ} → NumberRead s (cursor_at at lines) (get_or ms i 0) v d →
      after ≡ set values i v → MarksLeft s ms start (i + 1) d.at after
  unfolding fields_from
  marks_step {lines} {v} {d} {after} n e =
      let there : i ≡ 0 + length k.so_far = omega (arith, k.size) in
      let go : fields_from k.so_far (drop i ms) (drop at s) ≡
      fields_from (k.so_far ++ (v ∷ [])) (drop (i + 1) ms) (drop d.at s) = rw (drop_step ms i l, n.read) in
      let put : set values i v ≡ padded (k.so_far ++ (v ∷ [])) =
      rw (k.held, sets_append (replicate most_fields 0) 0 k.so_far (v ∷ []))
      (ap (λ (n : ℕ). set (padded k.so_far) n v) there) in
      record {
        so_far = k.so_far ++ (v ∷ []);
        left = k.left ∙ go;
        size = omega (arith, length-append k.so_far (v ∷ []), k.size);
        held = e ∙ put;
        within = n.within;
        upto = omega arith;
      }

  -- none where one is wanted is wrong
  pub marks_bad : read_behind (get_or ms i 0) (drop at s) ≡ bad → fields_from [] ms (drop start s) ≡ bad
  unfolding fields_from
  marks_bad e = k.left ∙ rw (drop_step ms i l, e)

-- at the last separator all are read
pub marks_last :
    {s ms : List ℕ} {start i at : ℕ} {values : List ℕ} (k : MarksLeft s ms start i at values) → length ms ≤ i →
    fields_from [] ms (drop start s) ≡ got k.so_far (drop at s)
unfolding fields_from
marks_last {s} {ms} {start} {i} k l = k.left ∙ rw (drop_end ms i l)
