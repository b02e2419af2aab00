-- The last address of a good prefix of addresses of any width: its range ends no later than the largest address.
use Prim.Native.Nat.{ℕ, suc, ◌+◌, ◌-◌, ◌*◌, ◌/◌, ◌%◌, ◌^◌, ◌≤◌, ◌<◌}
use native.Mathlib.Nat.{div-add-mod', min-eq_left, mul-le-mul_right, lt_of_mul-lt-mul_right, suc-mul}
use native.Mathlib.Omega.{arith}
use mathlib.Core.Bool.{true}
use mathlib.Core.Path.{◌≡◌, ap, ◌∙◌}
use lib.Dec.{leb, eqb}
use lib.Pow.{pow-add}
use borrow.Author.Tests.{leb-true, eqb-true}
use Rattle.facts.proofs.Bools.{both}
use Rattle.fields.specs.Prefixes.{span, prefix_good, prefix_last}

module _ (w address len : ℕ) (good : prefix_good w address len ≡ true) where
  tests : (leb len w ≡ true) × (eqb (address % span w len) 0 ≡ true)
  unfolding prefix_good
  tests = both (leb len w) (eqb (address % span w len) 0) good

  -- the addresses are as many as the good prefixes of this length, each with its span
  parted : 2 ^ w ≡ 2 ^ len * span w len
  unfolding span
  parted =
      let within : len ≤ w = leb-true len w tests.0 in
      let apart : w ≡ len + (w - len) = omega arith in
      ap (λ (n : ℕ). 2 ^ n) apart ∙ pow-add 2 len (w - len)

  -- the range of a good prefix ends no later than the largest address
  pub range_within : address < 2 ^ w → address + span w len ≤ 2 ^ w
  range_within h =
      let s : ℕ = span w len in
      let k : ℕ = address / s in
      let whole : k * s ≡ address = omega (arith, div-add-mod' address s, eqb-true (address % s) 0 tests.1) in
      let before : k * s < 2 ^ len * s = omega (arith, parted) in
      let next : suc k * s ≤ 2 ^ len * s = mul-le-mul_right s (lt_of_mul-lt-mul_right s before) in
      omega (arith, parted, suc-mul k s)

  -- the last address of a good prefix is the end of its range
  pub last_of_good : address < 2 ^ w → prefix_last w address len ≡ address + span w len - 1
  unfolding prefix_last
  last_of_good h = min-eq_left (omega (arith, range_within h))
