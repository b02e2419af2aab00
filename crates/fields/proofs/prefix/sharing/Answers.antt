-- `fields::prefix::sharing` meets its contract: a shift divides, and places past 63 change nothing.
use native.Mathlib.Omega.{arith}
use Rattle.facts.proofs.Bits.{shifted_away}
use Rattle.fields.specs.Words.{address_bits}
use Rattle.fields.specs.PrefixSteps.{most_places}
use Rattle.fields.proofs.prefix.sharing.Goals as goal

pub returns : goal.returns
returns c = rw c.min.ensures (shifted_away address_bits _ most_places (omega arith))
