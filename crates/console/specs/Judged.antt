-- What is asked of headers, and what answers, where the list is judged once for many of them. Definitions only.
--   by_of t rs           the tree if t is true, which says that it was accepted; else the list rs, or its refusal
--   verdict_by by .. h room   what the search for all matches refuses: a good list is scanned, and a list that is not
--                       good is refused, whatever the header
--   list_by by .. h     the numbers that it finds; none by a list that is refused
--   answer_by by .. h   the line that answers header h
--   answer_asked ask ..  what answers what is asked: which rules match a header, by what answers; or why one rule misses
--                       it
use Rattle.std.specs.Prelude.{ℕ, Bool, true, false, List, [], Ok, Err, Result}
use Rattle.refusals.specs.declared.Refusal.{Refusal}
use Rattle.refusals.specs.Verdict.{Verdict}
use Rattle.refusals.specs.Verdict as verdict
use Rattle.rules.specs.Words.{most_rules}
use Rattle.rules.specs.Good.{list_verdict}
use Rattle.rules.specs.Scan.{scanned, scan_verdict}
use Rattle.trees.specs.Search.{tree_list}
use Rattle.trees.specs.TreeAll.{tree_all_verdict}
use Rattle.console.specs.declared.judge.By.{By}
use Rattle.console.specs.declared.judge.By.TheVariants as by
use Rattle.console.specs.declared.judge.Ask.{Ask}
use Rattle.console.specs.declared.judge.Ask.TheVariants as ask
use Rattle.console.specs.Replies.{answer_of}
use Rattle.console.specs.MissLines.{miss_answer}

abbrev pub on_verdict : Verdict → Result By Refusal
on_verdict verdict.Fine = Ok by.List
on_verdict (verdict.Refused why) = Err why

unfoldable pub by_of : Bool → List ℕ → Result By Refusal
by_of true rs = Ok by.Tree
by_of false rs = on_verdict (list_verdict rs)

unfoldable pub verdict_by : Result By Refusal → List ℕ → List ℕ → List ℕ → List ℕ → ℕ → Verdict
verdict_by (Ok by.Tree) rs nodes pool h room = tree_all_verdict rs nodes pool h room
verdict_by (Ok by.List) rs nodes pool h room = scan_verdict rs h room
verdict_by (Err why) rs nodes pool h room = verdict.Refused why

unfoldable pub list_by : Result By Refusal → List ℕ → List ℕ → List ℕ → List ℕ → List ℕ
list_by (Ok by.Tree) rs nodes pool h = tree_list rs nodes pool h
list_by (Ok by.List) rs nodes pool h = scanned rs h
list_by (Err why) rs nodes pool h = []

unfoldable pub answer_by : Result By Refusal → List ℕ → List ℕ → List ℕ → List ℕ → List ℕ
answer_by b rs nodes pool h = answer_of (verdict_by b rs nodes pool h most_rules) (list_by b rs nodes pool h)

unfoldable pub answer_asked : Ask → List ℕ → List ℕ → List ℕ → List ℕ → List ℕ
answer_asked (ask.Matches b) rs nodes pool = answer_by b rs nodes pool
answer_asked (ask.Misses n) rs nodes pool = miss_answer rs n
