-- `fields::bounds::divides` meets its contract: the field is looked at first, and then the two ends.
use native.Mathlib.Omega.{arith}
use mathlib.Core.Path.{◌∙◌}
use borrow.Author.Rules.{rules}
use borrow.Author.Tests.{le-ltb}
use Rattle.fields.specs.Cuts.{divides}
use Rattle.fields.proofs.Cuts.{past_not_divided}
use Rattle.fields.proofs.bounds.divides.Goals as goal

pub returns-then-field-lt-FIELDS : goal.returns-then-field-lt-FIELDS
unfolding divides
returns-then-field-lt-FIELDS c = search rules

pub returns-else-field-lt-FIELDS : goal.returns-else-field-lt-FIELDS
returns-else-field-lt-FIELDS c = let past = c.if-field-lt-FIELDS.false in
    le-ltb _ _ past ∙ past_not_divided _ _ _ (omega (arith, c.well_formed.0.1.0.1))
