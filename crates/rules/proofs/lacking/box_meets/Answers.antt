-- `rules::lacking::box_meets` meets its contract: it tests each field in turn.
use mathlib.Core.List.{[]}
use mathlib.Core.Path.{refl, ◌∙◌}
use lib.ListN.{get_or}
use borrow.Author.Rules.{rules}
use borrow.Author.Tests.{tests}
use Rattle.std.proofs.lemmas.Iterator.{YieldsList-from_range}
use Rattle.std.proofs.lemmas.Iterator.Search.{all_from_yields_List}
use Rattle.fields.specs.Words.{field_count}
use Rattle.fields.specs.Fields.{field_meets}
use Rattle.rules.specs.Words.{form_of, field_of}
use Rattle.rules.proofs.Meaning.{fields_meet}
use Rattle.rules.proofs.Walks.{all_of_range}
use Rattle.rules.proofs.lacking.box_meets.Goals as goal

pub returns : goal.returns
returns c =
    all_from_yields_List
    (λ f. field_meets (field_of (form_of f) c.args.rules.now c.args.r) (get_or c.args.bounds f [])) _ _ _ c.all.ensures.ran
    (YieldsList-from_range 0 field_count field_count refl refl) (λ x b q k. search (rules, tests)) ∙
    all_of_range _ _ ∙
    fields_meet _ _ _
