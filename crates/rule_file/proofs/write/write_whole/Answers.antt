-- `rule_file::write::write_whole` meets its contract: the first pass counts, then the room decides; the second writes.
-- Assumes nothing.
use Prim.Native.Nat.{ℕ, ◌<◌, ◌^◌}
use native.Mathlib.Omega.{arith}
use mathlib.Core.Path.{◌≡◌}
use mathlib.Core.List.{List}
use lib.ListN.{length, get_or}
use Rattle.text.proofs.Below.{below_of}
use Rattle.text.proofs.Said.{said_short, said_put}
use Rattle.refusals.specs.Verdict.{Fine}
use Rattle.rules.specs.Good.{list_verdict_to}
use Rattle.rule_file.specs.declared.kind.Kind.{Kind}
use Rattle.rule_file.specs.Kinds.{most_action}
use Rattle.rule_file.specs.RuleText.{text_of}
use Rattle.rule_file.proofs.Lengths.{text_fits}
use Rattle.rule_file.proofs.write.write_whole.Goals as goal

-- the words of the list are of 32 bits, so that the text is short enough
fits :
    (kind : Kind) (words : List ℕ) → list_verdict_to (most_action kind) words ≡ Fine →
    ((i : ℕ) → get_or words i 0 < 2 ^ 32) → length (text_of kind words) < 2 ^ 64
fits kind words fine below = omega (arith, text_fits kind words fine (below_of (2 ^ 32) words (λ i b. below i)))

pub returns-then-text-needed : goal.returns-then-text-needed
returns-then-text-needed c =
    said_short (fits c.args.kind c.args.rules.now c.requires (λ i. omega (arith, c.type_inv.rules i)))
    c.write_pass-needed.ensures c.write_pass-needed.auto.text c.if-text-needed.true

pub returns : goal.returns
returns c =
    said_put (fits c.args.kind c.args.rules.now c.requires (λ i. omega (arith, c.type_inv.rules i)))
    c.write_pass-needed.ensures c.write_pass-needed.auto.text c.if-text-needed.false c.write_pass.ensures
