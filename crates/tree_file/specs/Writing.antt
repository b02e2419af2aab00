-- Writing a tree's file, or a part's. Definitions only.
--   spelling_verdict n nodes pool   1 where there are more than the most rules, then 5, then *spelt*: 6 and 7
--   write_verdict word              the same, then 4 where the room is less than the bytes of the text
--   FileWritten word                the promise: the text of the tree stands in front, or it is refused
--   TreeWritten, PartWritten        the same for a tree's file, and for a part's
use Rattle.refusals.specs.declared.Refusal.{Refusal}
use Rattle.std.specs.Prelude.{ℕ, List, [], ◌∷◌, length, leb, Result}
use Rattle.refusals.specs.declared.Refusal.TheVariants.{RuleWordsWrong}
use Rattle.refusals.specs.Verdict.{Verdict}
use Rattle.refusals.specs.Order.{refuse_unless, room_verdict, ◌then◌}
use Rattle.refusals.specs.Promises.{Writes}
use Rattle.rules.specs.Words.{most_rules}
use Rattle.trees.specs.Words.{size_verdict}
use Rattle.trees.specs.Spelt.{spelt_verdict}
use Rattle.text.specs.Words.{tree_word, part_word}
use Rattle.text.specs.Said.{paper}
use Rattle.tree_file.specs.TreeLines.{file_text}

unfoldable pub spelling_verdict : ℕ → List ℕ → List ℕ → Verdict
spelling_verdict n nodes pool =
    refuse_unless (leb n most_rules) RuleWordsWrong then size_verdict nodes pool then spelt_verdict n nodes pool

abbrev pub write_verdict : List ℕ → ℕ → List ℕ → List ℕ → ℕ → Verdict
write_verdict word n nodes pool room =
    spelling_verdict n nodes pool then room_verdict (length (file_text word n nodes pool)) room

abbrev pub FileWritten : List ℕ → ℕ → List ℕ → List ℕ → List ℕ → Result ℕ Refusal → List ℕ → Type 0
FileWritten word n nodes pool before r after =
    Writes paper (write_verdict word n nodes pool (length before)) (length (file_text word n nodes pool) ∷ [])
    (file_text word n nodes pool) before r after

abbrev pub TreeWritten : ℕ → List ℕ → List ℕ → List ℕ → Result ℕ Refusal → List ℕ → Type 0
TreeWritten n nodes pool before r after = FileWritten tree_word n nodes pool before r after

abbrev pub PartWritten : ℕ → List ℕ → List ℕ → List ℕ → Result ℕ Refusal → List ℕ → Type 0
PartWritten n nodes pool before r after = FileWritten part_word n nodes pool before r after
