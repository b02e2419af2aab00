-- The parts of the lines that are said, and that these are short.
use Prim.Native.Nat.{ℕ, zero, suc, ◌+◌, ◌^◌, ◌≤◌, ◌<◌}
use native.Mathlib.Omega.{arith}
use native.Mathlib.Numerals.{add-one}
use mathlib.Core.Path.{◌≡◌, refl}
use mathlib.Core.List.{List, [], ◌∷◌, ◌++◌, append_assoc, append-nil}
use lib.ListN.{length, replicate, length-append}
use borrow.Author.Tests.{le-leb, lt-leb}
use Rattle.facts.proofs.Cases.{WithinOrOver, within_or_over, at_most, over}
use Rattle.refusals.specs.declared.Refusal.{Refusal}
use Rattle.refusals.specs.Table.{number_of, place_of, extra_of}
use Rattle.fields.specs.Words.{field_count}
use Rattle.rules.specs.Words.{most_rules}
use Rattle.text.specs.Words.{newline, tab, three_tabs, hit_word, refused_word, match_word, misses_word, protocol_name}
use Rattle.text.specs.Numbers.{digits_of}
use Rattle.text.specs.Line.{EachUnder, print_fields, print_line}
use Rattle.text.proofs.Sizes.{digits_few, fields_few, line_size}
use Rattle.rule_file.specs.Pieces.{words_for}
use Rattle.rule_file.proofs.Pieces.{words_few}
use Rattle.console.specs.Lines.{refused_line, hit_line}
use Rattle.console.specs.MissLines.{name_of, misses_line, miss_line}

-- ---- the line of a refusal

four_parts : (w a b c e : List ℕ) → (((w ++ a) ++ b) ++ c) ++ e ≡ (w ++ (a ++ (b ++ (c ++ [])))) ++ e
four_parts w a b c e = simp (append_assoc, append-nil)

-- its parts
pub refused_parts :
    (why : Refusal) {n p e : ℕ} → n ≡ number_of why → p ≡ place_of why → e ≡ extra_of why →
    (((refused_word ++ (tab ∷ digits_of n)) ++ (tab ∷ digits_of p)) ++ (tab ∷ digits_of e)) ++ (newline ∷ []) ≡
    refused_line why
unfolding refused_line print_line print_fields
refused_parts why x y z = rw (x, y, z) (four_parts refused_word (tab ∷ digits_of (number_of why))
    (tab ∷ digits_of (place_of why)) (tab ∷ digits_of (extra_of why)) (newline ∷ []))

-- it is short
pub refused_few :
    (why : Refusal) → number_of why < 2 ^ 64 → place_of why < 2 ^ 64 → extra_of why < 2 ^ 64 →
    length (refused_line why) ≤ 71
unfolding refused_line print_line
refused_few why a b c =
    let vs : List ℕ = number_of why ∷ place_of why ∷ extra_of why ∷ [] in
    let below : EachUnder (10 ^ 20) vs = (omega arith, (omega arith, (omega arith, tt))) in
    simp length-append (omega (arith, fields_few 19 three_tabs vs below))

-- ---- the line of a hit

-- its parts
pub hit_parts :
    (ms : List ℕ) →
    ((hit_word ++ (tab ∷ digits_of (length ms))) ++ print_fields (replicate (length ms) tab) ms) ++ (newline ∷ []) ≡
    hit_line ms
unfolding hit_line print_line print_fields
hit_parts ms = rw add-one (simp (append_assoc))

-- it is short where the numbers are few
pub hit_few : (ms : List ℕ) → length ms ≤ most_rules → EachUnder (2 ^ 32) ms → length (hit_line ms) < 2 ^ 64
unfolding hit_line
hit_few ms few below =
    let size = line_size hit_word (replicate (length ms + 1) tab) (length ms ∷ ms) (omega arith, below) in
    simp length-append (omega (arith, size))

-- ---- the line of a miss

-- the name of what is none of the first four fields
pub name_last :
    (f : ℕ) → (f ≡ 0 → ⊥) → (f ≡ 1 → ⊥) → (f ≡ 2 → ⊥) → (f ≡ 3 → ⊥) → protocol_name ≡ name_of f
unfolding name_of
name_last zero a b c d = absurd (a refl)
name_last (suc zero) a b c d = absurd (b refl)
name_last (suc (suc zero)) a b c d = absurd (c refl)
name_last (suc (suc (suc zero))) a b c d = absurd (d refl)
name_last (suc (suc (suc (suc zero)))) a b c d = refl
name_last (suc (suc (suc (suc (suc f))))) a b c d = refl

name_few : (f : ℕ) → length (name_of f) ≤ 16
unfolding name_of
name_few zero = omega arith
name_few (suc zero) = omega arith
name_few (suc (suc zero)) = omega arith
name_few (suc (suc (suc zero))) = omega arith
name_few (suc (suc (suc (suc zero)))) = omega arith
name_few (suc (suc (suc (suc (suc f))))) = omega arith

module _ (rs : List ℕ) (n f : ℕ) where
  -- where no field misses it is a word
  pub match_parts : field_count ≤ f → match_word ++ (newline ∷ []) ≡ miss_line rs n f
  unfolding miss_line
  match_parts h = rw (le-leb field_count f h)

  misses : f < field_count → miss_line rs n f ≡ misses_line rs n f
  unfolding miss_line
  misses h = rw (lt-leb field_count f h)

  -- else its parts
  pub misses_parts :
      f < field_count →
      (((misses_word ++ (tab ∷ digits_of f)) ++ (tab ∷ name_of f)) ++ words_for rs n f) ++ (newline ∷ []) ≡ miss_line rs n f
  unfolding misses_line print_line print_fields
  misses_parts h = rw (misses h) (simp (append_assoc, append-nil))

  -- it is short
  pub miss_few : EachUnder (2 ^ 32) rs → length (miss_line rs n f) ≤ 81
  miss_few b = go (within_or_over field_count f)
    where
      go : WithinOrOver field_count f → length (miss_line rs n f) ≤ 81
      go (at_most k) = rw (← match_parts k) (omega arith)
      go (over k) =
          rw (← misses_parts k)
          (simp length-append (omega (arith, digits_few 0 f (omega arith), name_few f, words_few rs n f b)))
