-- `console::say::miss_line` meets its contract: it is counted, then the room decides, then it is put. Assumes nothing.
use Prim.Native.Nat.{ℕ, ◌<◌, ◌^◌}
use native.Mathlib.Omega.{arith}
use mathlib.Core.List.{List}
use lib.ListN.{length, get_or}
use Rattle.text.proofs.Below.{below_of}
use Rattle.text.proofs.Said.{said_short, said_put}
use Rattle.console.specs.MissLines.{miss_line}
use Rattle.console.proofs.Saying.{miss_few}
use Rattle.console.proofs.say.miss_line.Goals as goal

-- the words of the list are of 32 bits, so that the line is short
fits :
    (words : List ℕ) (rule field : ℕ) → ((i : ℕ) → get_or words i 0 < 2 ^ 32) →
    length (miss_line words rule field) < 2 ^ 64
fits words rule field below =
    omega (arith, miss_few words rule field (below_of (2 ^ 32) words (λ i b. below i)))

pub returns-then-out-needed : goal.returns-then-out-needed
returns-then-out-needed c =
    said_short (fits c.args.rules.now _ _ (λ i. omega (arith, c.type_inv.rules i))) c.put_miss-needed.ensures
    c.put_miss-needed.auto.out c.if-out-needed.true

pub returns : goal.returns
returns c =
    said_put (fits c.args.rules.now _ _ (λ i. omega (arith, c.type_inv.rules i))) c.put_miss-needed.ensures
    c.put_miss-needed.auto.out c.if-out-needed.false c.put_miss.ensures
