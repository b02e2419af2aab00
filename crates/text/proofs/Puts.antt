-- Putting one thing after another into a lent output.
use Prim.Native.Nat.{ℕ, zero, suc, ◌+◌, ◌≤◌, ◌<◌, ◌^◌, min}
use native.Mathlib.Omega.{arith}
use native.Mathlib.Numerals.{add-one}
use mathlib.Core.Path.{◌≡◌, refl, sym, ap, ◌∙◌, subst}
use mathlib.Core.List.{List, [], ◌∷◌, ◌++◌, append-nil, append_assoc}
use lib.ListN.{length, get_or, take, length-append}
use lib.Seq.{sets, length-sets, set_out, take-suc}
use Rattle.facts.proofs.Cases.{WithinOrOver, within_or_over, at_most, over}
use Rattle.facts.proofs.Setting.{sets_append}
use Rattle.text.specs.Places.{highest, place_after}
use Rattle.text.specs.Numbers.{digits_of}
use Rattle.text.specs.Line.{print_fields}
use Rattle.text.specs.Puts.{Put}
use Rattle.text.proofs.Places.{after_few, after_many, after_none, after_then}

-- bytes put past the end change nothing
pub sets_out : (l : List ℕ) (i : ℕ) (xs : List ℕ) → length l ≤ i → sets l i xs ≡ l
sets_out l i [] h = refl
sets_out l i (x ∷ xs) h = rw (set_out l i x h) (sets_out l (suc i) xs (omega arith))

-- no byte is put in no time
pub put_none : (l : List ℕ) (at : ℕ) → at < 2 ^ 64 → Put l at [] l at
put_none l at h = record { place = sym (after_none at h); bytes = refl }

-- a place that stands for all beyond it is past the end, as they are
same_place :
    (l : List ℕ) (at n : ℕ) (ys : List ℕ) → length l ≤ highest → sets l (place_after at n) ys ≡ sets l (at + n) ys
same_place l at n ys h = go (within_or_over (at + n) highest)
  where
    go : WithinOrOver (at + n) highest → sets l (place_after at n) ys ≡ sets l (at + n) ys
    go (at_most k) = rw (after_few at n (omega arith))
    go (over k) =
        rw (after_many at n k) (sets_out l highest ys h ∙ sym (sets_out l (at + n) ys (omega arith)))

-- some bytes, and then others behind them, are put as one
pub put_then :
    {l m n : List ℕ} {at p q : ℕ} {xs ys : List ℕ} → length l < 2 ^ 64 → Put l at xs m p → Put m p ys n q →
    Put l at (xs ++ ys) n q
put_then {l} {m} {n} {at} {p} {q} {xs} {ys} h f g = record { place = g.place ∙ there; bytes = g.bytes ∙ near ∙ whole }
  where
    there : place_after p (length ys) ≡ place_after at (length (xs ++ ys))
    there = rw (f.place, length-append xs ys) (after_then at (length xs) (length ys))

    small : length m ≤ highest
    small = rw (f.bytes, length-sets l at xs) (omega arith)

    near : sets m p ys ≡ sets m (at + length xs) ys
    near = rw f.place (same_place m at (length xs) ys small)

    whole : sets m (at + length xs) ys ≡ sets l at (xs ++ ys)
    whole = rw f.bytes (sym (sets_append l at xs ys))

-- equal bytes are put alike
pub put_same : {l m : List ℕ} {at p : ℕ} {xs ys : List ℕ} → xs ≡ ys → Put l at xs m p → Put l at ys m p
put_same {l} {m} {at} {p} e f = subst (λ (z : List ℕ). Put l at z m p) e f

-- what is put leaves the length as it was
pub put_length : {l m : List ℕ} {at p : ℕ} {xs : List ℕ} → Put l at xs m p → length m ≡ length l
put_length {l} {m} {at} {p} {xs} f = ap length f.bytes ∙ length-sets l at xs

-- one byte more of a word
pub bytes_more : (w : List ℕ) (i : ℕ) → i < length w → take i w ++ (get_or w i 0 ∷ []) ≡ take (i + 1) w
bytes_more w i h = rw add-one (sym (take-suc w i 0 h))

-- ---- numbers behind separators

-- one number more behind its separator
next_field :
    (ms vs : List ℕ) (i : ℕ) → i < length ms → i < length vs →
    print_fields (take i ms) (take i vs) ++ (get_or ms i 0 ∷ digits_of (get_or vs i 0)) ≡
    print_fields (take (suc i) ms) (take (suc i) vs)
unfolding print_fields
next_field [] vs i h k = absurd (omega arith)
next_field (m ∷ ms) [] i h k = absurd (omega arith)
next_field (m ∷ ms) (v ∷ vs) zero h k = ap (λ (l : List ℕ). m ∷ l) (sym (append-nil (digits_of v)))
next_field (m ∷ ms) (v ∷ vs) (suc i) h k =
    ap (λ (l : List ℕ). m ∷ l)
    (append_assoc (digits_of v) (print_fields (take i ms) (take i vs)) (get_or ms i 0 ∷ digits_of (get_or vs i 0)) ∙
    ap (λ (l : List ℕ). digits_of v ++ l) (next_field ms vs i (omega arith) (omega arith)))

-- the fields up to i and the one at i are those up to i + 1
pub fields_more :
    (ms vs : List ℕ) (i : ℕ) → i < length ms → i < length vs →
    print_fields (take i ms) (take i vs) ++ (get_or ms i 0 ∷ digits_of (get_or vs i 0)) ≡
    print_fields (take (i + 1) ms) (take (i + 1) vs)
fields_more ms vs i h k = rw add-one (next_field ms vs i h k)

-- where the separators or the numbers are spent, the fields are
pub fields_spent :
    (ms vs : List ℕ) (i : ℕ) → min (length ms) (length vs) ≤ i →
    print_fields (take i ms) (take i vs) ≡ print_fields ms vs
unfolding print_fields
fields_spent [] vs zero h = refl
fields_spent [] vs (suc i) h = refl
fields_spent (m ∷ ms) [] zero h = refl
fields_spent (m ∷ ms) [] (suc i) h = refl
fields_spent (m ∷ ms) (v ∷ vs) zero h = absurd (omega arith)
fields_spent (m ∷ ms) (v ∷ vs) (suc i) h = rw (fields_spent ms vs i (omega arith))
