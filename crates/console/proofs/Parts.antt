-- Lent bytes with replies in front, of which the part behind them is lent again.
--   rest_of at l        the part of the lent bytes l from a place on
--   put_at at l part    l with another part from that place on
use Prim.Native.Nat.{ℕ, ◌-◌, ◌≤◌}
use native.Mathlib.Omega.{arith}
use mathlib.Core.Path.{◌≡◌, ap, ◌∙◌}
use mathlib.Core.List.{List, ◌++◌, append-nil}
use lib.ListN.{length, take, drop, length-append, length-drop}
use lib.Seq.{take_all}
use Rattle.facts.specs.Lists.{written}
use Rattle.facts.proofs.Steps.{drop_end}
use Rattle.facts.proofs.Setting.{written_front, written_behind}

abbrev pub rest_of : ℕ → List ℕ → List ℕ
rest_of at l = take (length l - at) (drop at l)

abbrev pub put_at : ℕ → List ℕ → List ℕ → List ℕ
put_at at l part = take at l ++ (part ++ drop (length l - at) (drop at l))

module _ (xs before : List ℕ) (at : ℕ) (size : length xs ≡ at) (fits : at ≤ length before) where
  -- they are as many
  pub now_length : length (written xs before) ≡ length before
  unfolding written
  now_length = simp (length-append, length-drop) (omega arith)

  behind : drop at (written xs before) ≡ drop at before
  behind = written_behind xs before at size

  -- what is behind them is as found
  pub rest_found : rest_of at (written xs before) ≡ drop at before
  rest_found =
      rw (now_length, behind)
      (take_all (length before - at) (drop at before) (simp length-drop (omega arith)))

  -- and another part is put there
  pub put_part : (part : List ℕ) → put_at at (written xs before) part ≡ xs ++ part
  put_part part =
      rw (now_length, behind, written_front xs before at size)
      (ap (λ (p : List ℕ). xs ++ (part ++ p))
      (drop_end (drop at before) (length before - at) (simp length-drop (omega arith))) ∙
      ap (λ (p : List ℕ). xs ++ p) (append-nil part))
