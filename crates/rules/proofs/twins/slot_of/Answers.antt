-- `rules::twins::slot_of` meets its contract. The invariant: the words before this one are mixed. Assumes nothing.
use Prim.Native.Nat.{◌+◌, ◌*◌}
use native.Mathlib.Omega.{arith}
use mathlib.Core.Path.{◌∙◌}
use Rattle.rules.specs.Words.{rule_words}
use Rattle.rules.proofs.Slots.{mixed_first, mixed_step, product_fits, sum_fits, mixed_last}
use Rattle.rules.proofs.twins.slot_of.Goals as goal

pub loop-k-init : goal.loop-k-init
loop-k-init c = mixed_first _

pub overflow_mul-mix : goal.overflow_mul-mix
overflow_mul-mix c = let said = c.wide.ensures ∙ c.word_of.ensures in
    record {
      fits =
          product_fits c.loop-k.invariant c.loop-k-test.true said
          (λ i. omega (arith, c.type_inv.rules (c.args.r * rule_words + i)));
    }

pub overflow_add-mix : goal.overflow_add-mix
overflow_add-mix c = let said = c.wide.ensures ∙ c.word_of.ensures in
    record {
      fits =
          sum_fits c.loop-k.invariant c.loop-k-test.true said
          (λ i. omega (arith, c.type_inv.rules (c.args.r * rule_words + i)));
    }

pub loop-k-preserved : goal.loop-k-preserved
loop-k-preserved c = mixed_step c.loop-k.invariant c.loop-k-test.true
    (c.wide.ensures ∙ c.word_of.ensures)

pub returns : goal.returns
returns c = mixed_last _ _ c.loop-k.invariant c.loop-k-test.false
