-- `fields::header::header_verdict` meets its contract: the length decides first, and then the fields in turn.
-- The invariant: the fields before this one are fine, so what is left decides. Assumes nothing.
use Rattle.refusals.proofs.Turns.{Head}
use Rattle.fields.specs.Words.{field_count}
use Rattle.fields.specs.Headers.{field_verdict}
use Rattle.fields.proofs.header.header_verdict.Given as goal

abbrev pub invariant-loop-field : goal.invariant-loop-field
invariant-loop-field l = Head field_count (field_verdict l.header) l.field
