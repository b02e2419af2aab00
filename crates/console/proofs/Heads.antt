-- What an input line asks: from the tests on its length, its shape and its octets to the header.
use Rattle.std.specs.Prelude.{Result, Ok, Err, None, Some}
use Rattle.std.specs.Result.{result_ok}
use Prim.Native.Nat.{ℕ, ◌≤◌, ◌<◌}
use native.Mathlib.Omega.{arith}
use mathlib.Core.Bool.{true, false}
use mathlib.Core.Path.{◌≡◌, refl, ap, ◌∙◌}
use mathlib.Core.List.{List, [], ◌∷◌}
use mathlib.Core.Option.{none, some}
use lib.ListN.{length, get_or}
use borrow.Author.Tests.{le-leb, lt-leb}
use Rattle.text.specs.Words.{head_word, head_marks}
use Rattle.text.specs.Line.{read_line}
use Rattle.text.specs.Addresses.{octets_fit, address_of}
use Rattle.text.specs.Cursors.{padded}
use Rattle.text.proofs.Lines.{line_exact}
use Rattle.text.proofs.Answers.{padded_at}
use Rattle.console.specs.Heads.{most_bytes, head_test, header_of, head_from, head_in, in_head, head_at}

-- ---- what `ok` gives

-- a value was answered
pub kept : {T E : Type 0} {x : T} (r : Result T E) → result_ok r ≡ Some x → r ≡ Ok x
kept (Ok y) e = ap Ok cc
kept (Err why) e = let z : ◌≡◌ {A = ℕ} 0 1 = cc in absurd (omega arith)

-- none was
pub dropped : {T E : Type 0} (r : Result T E) → result_ok r ≡ None → (why : E) × (r ≡ Err why)
dropped (Ok y) e = let z : ◌≡◌ {A = ℕ} 0 1 = cc in absurd (omega arith)
dropped (Err why) e = (why, refl)

-- ---- from the numbers of a line to its header

module _ (vs : List ℕ) where
  -- without the octets of a source address there is none
  pub source_fails :
      octets_fit (get_or vs 0 0) (get_or vs 1 0) (get_or vs 2 0) (get_or vs 3 0) ≡ false → None ≡ in_head (head_from vs)
  unfolding head_from head_test
  source_fails e = rw e

  module _ (source : octets_fit (get_or vs 0 0) (get_or vs 1 0) (get_or vs 2 0) (get_or vs 3 0) ≡ true) where
    -- nor without those of a destination address
    pub destination_fails :
        octets_fit (get_or vs 4 0) (get_or vs 5 0) (get_or vs 6 0) (get_or vs 7 0) ≡ false →
        None ≡ in_head (head_from vs)
    unfolding head_from head_test
    destination_fails e = rw (source, e)

    -- with both there is one
    pub octets_fit_lem :
        {s d : ℕ} → octets_fit (get_or vs 4 0) (get_or vs 5 0) (get_or vs 6 0) (get_or vs 7 0) ≡ true →
        s ≡ address_of (get_or vs 0 0) (get_or vs 1 0) (get_or vs 2 0) (get_or vs 3 0) →
        d ≡ address_of (get_or vs 4 0) (get_or vs 5 0) (get_or vs 6 0) (get_or vs 7 0) →
        Some (s ∷ d ∷ get_or vs 8 0 ∷ get_or vs 9 0 ∷ get_or vs 10 0 ∷ []) ≡ in_head (head_from vs)
    unfolding head_from head_test header_of
    octets_fit_lem e p q = rw (source, e, p, q)

-- only the eleven numbers decide
same_head : (us vs : List ℕ) → ((j : ℕ) → j < 11 → get_or us j 0 ≡ get_or vs j 0) → head_from us ≡ head_from vs
unfolding head_from head_test header_of
same_head us vs e =
    rw (
      e 0 (omega arith),
      e 1 (omega arith),
      e 2 (omega arith),
      e 3 (omega arith),
      e 4 (omega arith),
      e 5 (omega arith),
      e 6 (omega arith),
      e 7 (omega arith),
      e 8 (omega arith),
      e 9 (omega arith),
      e 10 (omega arith),
    )

-- ---- from a line to its header

module _ (l : List ℕ) where
  -- a line that is too long asks about none
  pub too_long : most_bytes < length l → head_in l ≡ none
  unfolding head_in
  too_long h = rw (lt-leb (length l) most_bytes h)

  pub long_head : most_bytes < length l → None ≡ head_at l
  unfolding head_at
  long_head h = rw (too_long h)

  -- nor does a line of another shape
  pub other_head : length l ≤ most_bytes → read_line head_word head_marks l ≡ none → None ≡ head_at l
  unfolding head_at head_in
  other_head h e = rw (le-leb (length l) most_bytes h, e)

  -- a head line asks about the header of its numbers
  pub head_of_numbers :
      {vs values : List ℕ} → length l ≤ most_bytes → read_line head_word head_marks l ≡ some vs → values ≡ padded vs →
      in_head (head_from values) ≡ head_at l
  unfolding head_at head_in
  head_of_numbers {vs} {values} h e p =
      let count = (line_exact head_word head_marks l vs e).count in
      let same = same_head values vs
      (λ j k. ap (λ (us : List ℕ). get_or us j 0) p ∙ padded_at vs j (omega (arith, count)) (omega (arith, count))) in
      rw (le-leb (length l) most_bytes h, e, same)
