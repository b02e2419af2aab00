-- Addresses as four octets, the highest first. Definitions only.
--   octets_fit a b c d    each is at most 255
--   address_of a b c d     their address; 0 where they are not octets
--   octets_of x           the four octets of the address x
use Rattle.std.specs.Prelude.{ℕ, ◌+◌, ◌*◌, ◌/◌, ◌%◌, Bool, cond, ◌&&◌, List, [], ◌∷◌, leb}

unfoldable pub octets_fit : ℕ → ℕ → ℕ → ℕ → Bool
octets_fit a b c d = leb a 255 && leb b 255 && leb c 255 && leb d 255

unfoldable pub address_of : ℕ → ℕ → ℕ → ℕ → ℕ
address_of a b c d = cond (octets_fit a b c d) (((a * 256 + b) * 256 + c) * 256 + d) 0

abbrev pub octets_of : ℕ → List ℕ
octets_of x = x / 16777216 ∷ x / 65536 % 256 ∷ x / 256 % 256 ∷ x % 256 ∷ []
