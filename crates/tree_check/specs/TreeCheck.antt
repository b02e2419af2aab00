-- The tree check. Definitions only.
--   paper            an answer of the check, on paper: the most cuts above a leaf, and the longest leaf
--   root_part rs nodes pool   the root's part
--   end_verdict m next lack   6 at the first node left over, of m nodes, where the root's part ends at next; then 8
--   part_verdict m p  what the root's part says of a tree of m nodes: its refusal; else its end_verdict
--   list_and_sizes   1, 2, 11, then 5
--   words_verdict    those, then *spelt*
--   check_verdict    those, then the preorder walk, then 8
--   figures p        the most cuts above a leaf of the part p, and its longest leaf
--   TreeChecked      the promise: what check_verdict refuses; else the figures of the root's part
use Rattle.tree_check.specs.declared.preorder.Part.{Part}
use Rattle.tree_check.specs.declared.preorder.Lack.{Lack}
use Rattle.tree_check.specs.declared.check.Figures.{Figures}
use Rattle.tree_check.specs.Said.{Complete}
use Rattle.refusals.specs.declared.Refusal.{Refusal}
use Rattle.std.specs.Prelude.{ℕ, List, [], ◌∷◌, eqb, Err, Option, Result, Ok, Some}
use Rattle.refusals.specs.declared.Refusal.TheVariants.{NodeWrong, LeafLacksRule}
use Rattle.refusals.specs.Verdict.{Verdict}
use Rattle.refusals.specs.Verdict as verdict
use Rattle.refusals.specs.Paper.{Paper, said}
use Rattle.refusals.specs.Order.{refuse_unless, ◌then◌}
use Rattle.refusals.specs.Promises.{Says}
use Rattle.fields.specs.Boxes.{root_box}
use Rattle.rules.specs.Words.{rule_count}
use Rattle.rules.specs.Good.{list_verdict}
use Rattle.trees.specs.Words.{node_count, size_verdict}
use Rattle.trees.specs.Spelt.{spelt_verdict}
use Rattle.tree_check.specs.Whole.{most_cuts}
use Rattle.tree_check.specs.Preorder.{part_of}

abbrev pub paper : Result Figures Refusal → Paper
paper = said (λ found. found.cuts ∷ found.longest ∷ [])

unfoldable pub root_part : List ℕ → List ℕ → List ℕ → Result Part Refusal
root_part rs nodes pool = part_of most_cuts rs nodes pool root_box 0

abbrev pub lack_verdict : Option Lack → Verdict
lack_verdict Complete = verdict.Fine
lack_verdict (Some lack) = verdict.Refused (LeafLacksRule lack.node lack.rule)

abbrev pub end_verdict : ℕ → ℕ → Option Lack → Verdict
end_verdict m next lack = refuse_unless (eqb next m) (NodeWrong next) then lack_verdict lack

abbrev pub part_verdict : ℕ → Result Part Refusal → Verdict
part_verdict m (Err why) = verdict.Refused why
part_verdict m (Ok part) = end_verdict m part.next part.lack

abbrev pub figures : Result Part Refusal → List ℕ
figures (Err why) = []
figures (Ok part) = part.cuts ∷ part.longest ∷ []

abbrev pub list_and_sizes : List ℕ → List ℕ → List ℕ → Verdict
list_and_sizes rs nodes pool = list_verdict rs then size_verdict nodes pool

unfoldable pub words_verdict : List ℕ → List ℕ → List ℕ → Verdict
words_verdict rs nodes pool = list_verdict rs then size_verdict nodes pool then spelt_verdict (rule_count rs) nodes pool

unfoldable pub check_verdict : List ℕ → List ℕ → List ℕ → Verdict
check_verdict rs nodes pool =
    words_verdict rs nodes pool then part_verdict (node_count nodes) (root_part rs nodes pool)

abbrev pub TreeChecked : List ℕ → List ℕ → List ℕ → Result Figures Refusal → Type 0
TreeChecked rs nodes pool r = Says paper (check_verdict rs nodes pool) (figures (root_part rs nodes pool)) r
