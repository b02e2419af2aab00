-- `rules::twins::same_words` meets its contract: it compares each word in turn.
use mathlib.Core.Path.{refl, ◌∙◌}
use lib.Dec.{eqb}
use borrow.Author.Rules.{rules}
use borrow.Author.Tests.{tests}
use Rattle.std.proofs.lemmas.Iterator.{YieldsList-from_range}
use Rattle.std.proofs.lemmas.Iterator.Search.{all_from_yields_List}
use Rattle.rules.specs.Words.{match_words, word_of}
use Rattle.rules.specs.Twins.{same_words}
use Rattle.rules.proofs.Walks.{all_of_range}
use Rattle.rules.proofs.twins.same_words.Goals as goal

pub returns : goal.returns
unfolding same_words
returns c =
    all_from_yields_List
    (λ j. eqb (word_of c.args.rules.now c.args.q j) (word_of c.args.rules.now c.args.r j)) _ _ _ c.all.ensures.ran
    (YieldsList-from_range 0 match_words match_words refl refl) (λ x b q k. search (rules, tests)) ∙
    all_of_range _ _
