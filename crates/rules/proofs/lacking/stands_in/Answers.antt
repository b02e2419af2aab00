-- `rules::lacking::stands_in` meets its contract: some entry is the number exactly where it stands among them.
use mathlib.Core.Path.{◌∙◌}
use lib.Dec.{eqb}
use borrow.Author.Rules.{rules}
use borrow.Author.Tests.{tests}
use Rattle.std.proofs.lemmas.Iterator.{YieldsList-from_slice}
use Rattle.std.proofs.lemmas.Iterator.Search.{any_from_yields_List}
use Rattle.rules.proofs.Walks.{any_is}
use Rattle.rules.proofs.lacking.stands_in.Goals as goal

pub returns : goal.returns
returns c =
    any_from_yields_List (λ x. eqb x c.args.number) _ _ _ c.any.ensures.ran (YieldsList-from_slice c.args.entries.now cc)
    (λ x b q k. search (rules, tests)) ∙
    any_is _ _
