-- `console::say::hit_line` meets its contract: it is counted, then the room decides, then it is put. Assumes nothing.
use Prim.Native.Nat.{ℕ, ◌<◌, ◌≤◌, ◌^◌}
use native.Mathlib.Omega.{arith}
use mathlib.Core.List.{List}
use lib.ListN.{length, get_or}
use Rattle.text.proofs.Below.{below_of}
use Rattle.text.proofs.Said.{said_short, said_put}
use Rattle.rules.specs.Words.{most_rules}
use Rattle.console.specs.Lines.{hit_line}
use Rattle.console.proofs.Saying.{hit_few}
use Rattle.console.proofs.say.hit_line.Goals as goal

-- the numbers are few, and of 32 bits
fits :
    (numbers : List ℕ) → length numbers ≤ most_rules → ((i : ℕ) → get_or numbers i 0 < 2 ^ 32) →
    length (hit_line numbers) < 2 ^ 64
fits numbers few below = hit_few numbers few (below_of (2 ^ 32) numbers (λ i b. below i))

pub returns-then-out-needed : goal.returns-then-out-needed
returns-then-out-needed c =
    said_short (fits c.args.numbers.now c.requires (λ i. omega (arith, c.type_inv.numbers i))) c.put_hit-needed.ensures
    c.put_hit-needed.auto.out c.if-out-needed.true

pub returns : goal.returns
returns c =
    said_put (fits c.args.numbers.now c.requires (λ i. omega (arith, c.type_inv.numbers i))) c.put_hit-needed.ensures
    c.put_hit-needed.auto.out c.if-out-needed.false c.put_hit.ensures
