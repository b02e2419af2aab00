-- `rule_file::record::rule_at` meets its contract: it copies the words of rule `i`. Assumes nothing.
use Prim.Native.Nat.{ℕ, ◌+◌, ◌-◌, ◌*◌}
use native.Mathlib.Omega.{arith}
use mathlib.Core.Path.{◌≡◌, ap, ◌∙◌}
use lib.ListN.{take, drop}
use Rattle.rules.specs.Words.{rule_words}
use Rattle.rule_file.proofs.record.rule_at.Goals as goal

pub returns : goal.returns
returns c =
    let s = c.args in
    let start : ℕ = s.i * rule_words in
    let size : start + rule_words - start ≡ rule_words = omega arith in
    c.copy_from_slice.ensures.after ∙ ap (λ (k : ℕ). take k (drop start s.rules.now)) size
