-- `fields::header::header_verdict` meets its contract: the length decides first, and then the fields in turn.
-- The invariant: the fields before this one are fine, so what is left decides. Assumes nothing.
use mathlib.Core.Path.{sym, ◌∙◌}
use Rattle.refusals.proofs.Turns.{head_first, head_step, head_stop, head_last}
use Rattle.fields.proofs.Headers.{length_wrong, fields_decide, field_over, field_within}
use Rattle.fields.proofs.header.header_verdict.Goals as goal

pub returns-then-header-ne-FIELDS : goal.returns-then-header-ne-FIELDS
returns-then-header-ne-FIELDS c = length_wrong _ c.if-header-ne-FIELDS.true

pub loop-field-init : goal.loop-field-init
loop-field-init c = head_first _ _

pub returns-then-field-header : goal.returns-then-field-header
returns-then-field-header c = sym
    (fields_decide _ c.if-header-ne-FIELDS.false ∙
    head_stop c.loop-field.invariant c.loop-field-test.true (field_over _ _ c.if-field-header.true))

pub loop-field-preserved : goal.loop-field-preserved
loop-field-preserved c = head_step c.loop-field.invariant c.loop-field-test.true (field_within _ _ c.if-field-header.false)

pub returns : goal.returns
returns c = sym (fields_decide _ c.if-header-ne-FIELDS.false ∙ head_last c.loop-field.invariant c.loop-field-test.false)
