-- Reading at a place of a text, a byte at a time: the steps of the loops that read a number, a word and a line's end.
use Prim.Native.Nat.{ℕ, ◌+◌, ◌-◌, ◌*◌, ◌^◌, ◌<◌, ◌≤◌}
use native.Mathlib.Omega.{arith}
use mathlib.Core.Bool.{Bool, true, false}
use mathlib.Core.Path.{◌≡◌, refl, sym, ◌∙◌}
use mathlib.Core.List.{List, [], ◌∷◌, ◌++◌}
use lib.ListN.{length, get_or, drop, length-append}
use lib.Dec.{eqb}
use borrow.Author.Tests.{lt-ltb, le-ltb, eq-eqb, ne_eqb, eqb-true, eqb-false}
use Rattle.std.specs.List.{starts_with}
use Rattle.facts.proofs.Bools.{both}
use Rattle.facts.proofs.Steps.{drop_step, drop_end}
use Rattle.text.specs.Words.{newline}
use Rattle.text.specs.Numbers.{got, bad, is_digit, more, read_number}
use Rattle.text.specs.Line.{read_word, read_behind}
use Rattle.text.specs.Text.{line, no_line, next_from}

-- ---- a number

-- what is left to read of the digits that begin at `start`: those before `at` make v
pub record NumberLeft (s : List ℕ) (start at v : ℕ) : Type 0 where
  pub left : more (2 ^ 32) 0 (drop start s) ≡ more (2 ^ 32) v (drop at s)
  pub within : at ≤ length s
  pub small : v < 2 ^ 32

module _ (s : List ℕ) (at : ℕ) where
  -- at the end there is no number
  pub number_none : length s ≤ at → read_number (2 ^ 32) (drop at s) ≡ bad
  unfolding read_number
  number_none h = rw (drop_end s at h)

  -- a byte that is no digit begins no number
  pub number_no_digit : at < length s → is_digit (get_or s at 0) ≡ false → read_number (2 ^ 32) (drop at s) ≡ bad
  unfolding read_number
  number_no_digit h e = rw (drop_step s at h, e)

  -- a zero is a number by itself
  pub number_zero :
      at < length s → is_digit (get_or s at 0) ≡ true → get_or s at 0 ≡ 48 →
      read_number (2 ^ 32) (drop at s) ≡ got 0 (drop (at + 1) s)
  unfolding read_number
  number_zero h e z = rw (drop_step s at h, e, eq-eqb (get_or s at 0) 48 z)

  -- another digit begins a number of as many digits as follow
  pub number_digits :
      at < length s → is_digit (get_or s at 0) ≡ true → (get_or s at 0 ≡ 48 → ⊥) →
      more (2 ^ 32) 0 (drop at s) ≡ read_number (2 ^ 32) (drop at s)
  unfolding read_number
  number_digits h e z = rw (drop_step s at h, e, ne_eqb (get_or s at 0) 48 z)

module _ {s : List ℕ} {start at v : ℕ} (n : NumberLeft s start at v) where
  -- a digit makes the number ten times as large and its own value more
  pub digits_step :
      at < length s → is_digit (get_or s at 0) ≡ true → v * 10 + (get_or s at 0 - 48) < 2 ^ 32 →
      NumberLeft s start (at + 1) (v * 10 + (get_or s at 0 - 48))
  unfolding more
  digits_step h e l =
      let go : more (2 ^ 32) v (drop at s) ≡ more (2 ^ 32) (v * 10 + (get_or s at 0 - 48)) (drop (at + 1) s) =
      rw (drop_step s at h, e, lt-ltb (v * 10 + (get_or s at 0 - 48)) (2 ^ 32) l) in
      record { left = n.left ∙ go; within = omega arith; small = l }

  -- a digit that makes it too large is wrong
  pub digits_over :
      at < length s → is_digit (get_or s at 0) ≡ true → 2 ^ 32 ≤ v * 10 + (get_or s at 0 - 48) →
      more (2 ^ 32) 0 (drop start s) ≡ bad
  unfolding more
  digits_over h e l = n.left ∙ rw (drop_step s at h, e, le-ltb (v * 10 + (get_or s at 0 - 48)) (2 ^ 32) l)

  -- a byte that is no digit ends it
  pub digits_stop :
      at < length s → is_digit (get_or s at 0) ≡ false → more (2 ^ 32) 0 (drop start s) ≡ got v (drop at s)
  unfolding more
  digits_stop h e = n.left ∙ rw (drop_step s at h, e)

  -- and so does the end
  pub digits_spent : length s ≤ at → more (2 ^ 32) 0 (drop start s) ≡ got v (drop at s)
  unfolding more
  digits_spent h = n.left ∙ rw (drop_end s at h)

-- ---- a number behind a separator

module _ (s : List ℕ) (m at : ℕ) where
  pub behind_none : length s ≤ at → read_behind m (drop at s) ≡ bad
  unfolding read_behind
  behind_none h = rw (drop_end s at h)

  pub behind_other : at < length s → (get_or s at 0 ≡ m → ⊥) → read_behind m (drop at s) ≡ bad
  unfolding read_behind
  behind_other h e = rw (drop_step s at h, ne_eqb (get_or s at 0) m e)

  pub behind_number :
      at < length s → get_or s at 0 ≡ m → read_behind m (drop at s) ≡ read_number (2 ^ 32) (drop (at + 1) s)
  unfolding read_behind
  behind_number h e = rw (drop_step s at h, eq-eqb (get_or s at 0) m e)

-- ---- a word

-- a word that stands in front is read
pub word_front : (w bs : List ℕ) → starts_with eqb bs w ≡ true → read_word w bs ≡ got tt (drop (length w) bs)
unfolding read_word
word_front [] bs h = refl
word_front (x ∷ w) [] h = cc
word_front (x ∷ w) (b ∷ bs) h =
    let t = both (eqb x b) (starts_with eqb bs w) h in
    rw (eq-eqb b x (sym (eqb-true x b t.0))) (word_front w bs t.1)

-- another is not
pub word_apart : (w bs : List ℕ) → starts_with eqb bs w ≡ false → read_word w bs ≡ bad
unfolding read_word
word_apart [] bs h = cc
word_apart (x ∷ w) [] h = refl
word_apart (x ∷ w) (b ∷ bs) h = go (eqb x b) refl (word_apart w bs)
  where
    go :
        (t : Bool) → eqb x b ≡ t → (starts_with eqb bs w ≡ false → read_word w bs ≡ bad) →
        read_word (x ∷ w) (b ∷ bs) ≡ bad
    go true e rest = rw (eq-eqb b x (sym (eqb-true x b e))) (rest (rw e at h))
    go false e rest = rw (ne_eqb b x (λ (f : b ≡ x). eqb-false x b e (sym f)))

-- ---- the end of a line

-- what is left to search for a newline from `start` on: none stands before `at`
pub record EndLeft (s : List ℕ) (start at : ℕ) : Type 0 where
  pub passed : List ℕ
  pub left : next_from [] (drop start s) ≡ next_from passed (drop at s)
  pub size : start + length passed ≡ at

module _ {s : List ℕ} {start at : ℕ} (k : EndLeft s start at) where
  -- a newline ends the line
  pub end_here :
      at < length s → get_or s at 0 ≡ newline → next_from [] (drop start s) ≡ line k.passed (drop (at + 1) s)
  unfolding next_from
  end_here h e = k.left ∙ rw (drop_step s at h, eq-eqb (get_or s at 0) newline e)

  -- another byte is passed
  pub end_step : at < length s → (get_or s at 0 ≡ newline → ⊥) → EndLeft s start (at + 1)
  unfolding next_from
  end_step h e =
      let b : ℕ = get_or s at 0 in
      let go : next_from k.passed (drop at s) ≡ next_from (k.passed ++ (b ∷ [])) (drop (at + 1) s) =
      rw (drop_step s at h, ne_eqb (get_or s at 0) newline e) in
      record {
        passed = k.passed ++ (b ∷ []);
        left = k.left ∙ go;
        size = omega (arith, length-append k.passed (b ∷ []), k.size);
      }

  -- at the end there is no whole line
  pub end_none : length s ≤ at → next_from [] (drop start s) ≡ no_line
  unfolding next_from
  end_none h = k.left ∙ rw (drop_end s at h)
