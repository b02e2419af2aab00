-- `rules::bounds::ends_of` meets its contract: a rule and a field that are there are looked for first, and then the
-- bounds of the field are the answer.
use mathlib.Core.Path.{sym, ap, ◌∙◌}
use borrow.Author.Tests.{ltb-true}
use Rattle.facts.proofs.Bools.{held, failed}
use Rattle.fields.specs.Fields.{field_bounds}
use Rattle.rules.proofs.Ends.{no_rule_no_ends, no_field_no_ends, ends_are_bounds}
use Rattle.rules.proofs.bounds.ends_of.Goals as goal
use Rattle.rules.proofs.bounds.ends_of.Goals.{then-not-rule_there-via-then-not-rule_there, then-not-rule_there-via-else-not-rule_there+then-f-ge-FIELDS}

pub returns-then-not-rule_there : goal.returns-then-not-rule_there
returns-then-not-rule_there c =
    elim c.then-not-rule_there.branch [
      | then-not-rule_there-via-then-not-rule_there w ↦
          no_rule_no_ends _ _ _ (failed c.rule_there.ensures w.if-not-rule_there.true)
      | then-not-rule_there-via-else-not-rule_there+then-f-ge-FIELDS w ↦
          no_field_no_ends _ _ _ (held c.rule_there.ensures w.if-not-rule_there.false) w.if-f-ge-FIELDS.true
    ]

pub field_of-requires : goal.field_of-requires
field_of-requires c = (ltb-true _ _ (held c.rule_there.ensures c.if-not-rule_there.false), c.if-f-ge-FIELDS.false)

pub returns : goal.returns
returns c = c.field_bounds.ensures ∙ ap field_bounds c.field_of.ensures ∙
    sym (ends_are_bounds _ _ _ (held c.rule_there.ensures c.if-not-rule_there.false) c.if-f-ge-FIELDS.false)
