-- The laws of addresses: the octets of an address of 32 bits give it back, and octets are those of their address.
use Prim.Native.Nat.{ℕ, ◌+◌, ◌*◌, ◌/◌, ◌%◌, ◌^◌, ◌<◌, ◌≤◌}
use native.Mathlib.Omega.{arith}
use mathlib.Core.Bool.{true, ◌&&◌}
use mathlib.Core.List.{[], ◌∷◌}
use mathlib.Core.Path.{◌≡◌}
use lib.Dec.{leb}
use borrow.Author.Tests.{le-leb, leb-true}
use Rattle.facts.proofs.Bools.{both}
use Rattle.text.specs.Addresses.{octets_fit, address_of, octets_of}

-- four numbers of at most 255 are octets
pub octets_fit_lem : (a b c d : ℕ) → a ≤ 255 → b ≤ 255 → c ≤ 255 → d ≤ 255 → octets_fit a b c d ≡ true
unfolding octets_fit
octets_fit_lem a b c d p q r s = rw (le-leb a 255 p, le-leb b 255 q, le-leb c 255 r, le-leb d 255 s)

-- octets are at most 255
pub octets_most :
    (a b c d : ℕ) → octets_fit a b c d ≡ true → (a ≤ 255) × (b ≤ 255) × (c ≤ 255) × (d ≤ 255)
unfolding octets_fit
octets_most a b c d h =
    let h₁ = both (leb a 255 && leb b 255 && leb c 255) (leb d 255) h in
    let h₂ = both (leb a 255 && leb b 255) (leb c 255) h₁.0 in
    let h₃ = both (leb a 255) (leb b 255) h₂.0 in
    (leb-true a 255 h₃.0, leb-true b 255 h₃.1, leb-true c 255 h₂.1, leb-true d 255 h₁.1)

-- the address of octets has 32 bits
pub address_below : (a b c d : ℕ) → octets_fit a b c d ≡ true → address_of a b c d < 2 ^ 32
unfolding address_of
address_below a b c d h = let m = octets_most a b c d h in rw h (omega arith)

-- the four octets of a number of 32 bits are octets
pub octets_of_fit :
    (x : ℕ) → x < 2 ^ 32 → octets_fit (x / 16777216) (x / 65536 % 256) (x / 256 % 256) (x % 256) ≡ true
octets_of_fit x h = octets_fit_lem _ _ _ _ (omega arith) (omega arith) (omega arith) (omega arith)

-- the address of the four octets of a number of 32 bits is that number
pub octets_back :
    (x : ℕ) → x < 2 ^ 32 → address_of (x / 16777216) (x / 65536 % 256) (x / 256 % 256) (x % 256) ≡ x
unfolding address_of
octets_back x h = rw (octets_of_fit x h) (omega arith)

-- the octets of the address of four octets are those four
pub octets_exact : (a b c d : ℕ) → octets_fit a b c d ≡ true → octets_of (address_of a b c d) ≡ a ∷ b ∷ c ∷ d ∷ []
unfolding address_of
octets_exact a b c d h =
    let m = octets_most a b c d h in
    let x : ℕ = ((a * 256 + b) * 256 + c) * 256 + d in
    let ea : x / 16777216 ≡ a = omega arith in
    let eb : x / 65536 % 256 ≡ b = omega arith in
    let ec : x / 256 % 256 ≡ c = omega arith in
    let ed : x % 256 ≡ d = omega arith in
    rw (h, ea, eb, ec, ed)
