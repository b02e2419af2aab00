-- Taking the list of the rule file. Definitions only.
--   paper               an answer on paper: the words of the list
--   ListTaken           the promise: 12, 9, 10 or 11 of the rule file f, then 4 where the room is less than the list's
--                       words; else how many words it has, which stand in front
use Rattle.refusals.specs.declared.Refusal.{Refusal}
use Rattle.std.specs.Prelude.{ℕ, List, [], ◌∷◌, length, Result}
use Rattle.std.proofs.Math.Option.{Option}
use Rattle.refusals.specs.Paper.{Paper, counted}
use Rattle.refusals.specs.Promises.{Writes}
use Rattle.rule_file.specs.Reading.{words_in, read_verdict}
use Rattle.policy.specs.Files.{list_in}

abbrev pub paper : Result ℕ Refusal → Paper
paper = counted

abbrev pub ListTaken : Option (List ℕ) → List ℕ → Result ℕ Refusal → List ℕ → Type 0
ListTaken f before r after =
    let a = list_in f in
    Writes paper (read_verdict a (length before)) (length (words_in a) ∷ []) (words_in a) before r after
