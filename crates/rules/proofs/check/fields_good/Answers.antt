-- `rules::check::fields_good` meets its contract: it tests each field in turn.
use mathlib.Core.Path.{refl, ◌∙◌}
use borrow.Author.Rules.{rules}
use borrow.Author.Tests.{tests}
use Rattle.std.proofs.lemmas.Iterator.{YieldsList-from_range}
use Rattle.std.proofs.lemmas.Iterator.Search.{all_from_yields_List}
use Rattle.fields.specs.Words.{field_count}
use Rattle.fields.specs.Fields.{field_good}
use Rattle.rules.specs.Words.{form_of, field_of}
use Rattle.rules.specs.Good.{fields_good}
use Rattle.rules.proofs.Walks.{all_of_range}
use Rattle.rules.proofs.check.fields_good.Goals as goal

pub returns : goal.returns
unfolding fields_good
returns c =
    all_from_yields_List (λ f. field_good (field_of (form_of f) c.args.rules.now c.args.r)) _ _ _ c.all.ensures.ran
    (YieldsList-from_range 0 field_count field_count refl refl) (λ x b q k. search (rules, tests)) ∙
    all_of_range _ _
