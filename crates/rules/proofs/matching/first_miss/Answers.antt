-- `rules::matching::first_miss` meets its contract: the rule's own words have the same fields. Assumes nothing.
use native.Mathlib.Omega.{arith}
use mathlib.Core.Path.{◌∙◌}
use Rattle.rules.proofs.Forms.{own_words_there, own_words_miss}
use Rattle.rules.proofs.matching.first_miss.Goals as goal

pub miss_in_rule-requires : goal.miss_in_rule-requires
miss_in_rule-requires c = let a = c.args in
    (own_words_there a.rules.now a.r (omega arith), omega arith)

pub returns : goal.returns
returns c = c.miss_in_rule.ensures ∙ own_words_miss _ _ (omega arith) _
