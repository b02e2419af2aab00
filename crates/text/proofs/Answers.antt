-- From what was read at a place to what the cursor's methods answer.
use Rattle.std.specs.Prelude.{Err, Ok}
use Prim.Native.Nat.{ℕ, ◌+◌, ◌≤◌, ◌<◌}
use native.Mathlib.Omega.{arith}
use mathlib.Core.Path.{◌≡◌, ap, ◌∙◌}
use mathlib.Core.List.{List}
use lib.ListN.{length, get_or, drop, replicate, get_or-append}
use lib.Seq.{sets-eq}
use Rattle.refusals.specs.declared.Refusal.{Refusal}
use Rattle.text.specs.Words.{most_fields}
use Rattle.text.specs.Numbers.{Got, got, bad}
use Rattle.text.specs.Cursors.{wrong_at, cursor_at, padded, on_number, on_word, on_fields}
use Rattle.text.proofs.Places.{place_left}

module _ (s : List ℕ) (k : ℕ) where
  -- a number that was read is answered with the place behind it
  pub number_answer :
      {g : Got ℕ} {v at : ℕ} → g ≡ got v (drop at s) → at ≤ length s → Ok (v, cursor_at at k) ≡ on_number s k g
  number_answer {g} {v} {at} e h = rw (e, place_left s at h)

  -- no number is answered with the refusal of its line
  pub number_refusal : {g : Got ℕ} {why : Refusal} → g ≡ bad → why ≡ wrong_at k → Err why ≡ on_number s k g
  number_refusal e f = rw (e, f)

  -- likewise a word
  pub word_answer :
      {g : Got (Unit {0})} {at : ℕ} → g ≡ got tt (drop at s) → at ≤ length s → Ok (cursor_at at k) ≡ on_word s k g
  word_answer {g} {at} e h = rw (e, place_left s at h)

  pub word_refusal : {g : Got (Unit {0})} {why : Refusal} → g ≡ bad → why ≡ wrong_at k → Err why ≡ on_word s k g
  word_refusal e f = rw (e, f)

  -- numbers that were read are answered with the place behind them
  pub fields_answer :
      {g : Got (List ℕ)} {vs values : List ℕ} {at : ℕ} → g ≡ got vs (drop at s) → at ≤ length s → values ≡ padded vs →
      Ok (record { values = values; next = cursor_at at k }) ≡ on_fields s k g
  fields_answer {g} {vs} {values} {at} e h p = rw (e, p, place_left s at h)

  -- numbers that are not there are answered with the refusal of their line
  pub fields_refusal :
      {g : Got (List ℕ)} {why : Refusal} → g ≡ bad → why ≡ wrong_at k → Err why ≡ on_fields s k g
  fields_refusal e f = rw (e, f)

-- a number of a line stands at its place among the values of an answer
pub padded_at : (vs : List ℕ) (j : ℕ) → length vs ≤ most_fields → j < length vs → get_or (padded vs) j 0 ≡ get_or vs j 0
padded_at vs j few h =
    let rest : List ℕ = drop (0 + length vs) (replicate most_fields 0) in
    ap (λ (l : List ℕ). get_or l j 0) (sets-eq vs (replicate most_fields 0) 0 (omega arith)) ∙
    get_or-append vs rest 0 j h
