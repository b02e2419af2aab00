-- The reply to an input line. Definitions only.
--   search_verdict by .. h room   what the search for all matches refuses: by the tree if by is true, else by the list
--   search_list by .. h      the numbers that it finds
--   answer_to by .. h        the line that answers header h: a hit with the numbers, or the refusal
--   line_reply answer k l    the line that replies to the input line l, which has k lines before it: 9 where it asks
--                            about no header, else the answer
use Rattle.std.specs.Prelude.{ℕ, Bool, true, false, List}
use Rattle.std.proofs.Math.Option.{Option, none, some}
use Rattle.refusals.specs.Verdict.{Verdict}
use Rattle.refusals.specs.Verdict.{Fine, Refused}
use Rattle.rules.specs.Words.{most_rules}
use Rattle.rules.specs.Matching.{matching}
use Rattle.rules.specs.LineAll.{all_verdict}
use Rattle.trees.specs.Search.{tree_list}
use Rattle.trees.specs.TreeAll.{tree_all_verdict}
use Rattle.text.specs.Cursors.{wrong_at}
use Rattle.console.specs.Heads.{head_in}
use Rattle.console.specs.Lines.{refused_line, hit_line}

unfoldable pub search_verdict : Bool → List ℕ → List ℕ → List ℕ → List ℕ → ℕ → Verdict
search_verdict true rs nodes pool h room = tree_all_verdict rs nodes pool h room
search_verdict false rs nodes pool h room = all_verdict rs h room

unfoldable pub search_list : Bool → List ℕ → List ℕ → List ℕ → List ℕ → List ℕ
search_list true rs nodes pool h = tree_list rs nodes pool h
search_list false rs nodes pool h = matching rs h

unfoldable pub answer_of : Verdict → List ℕ → List ℕ
answer_of Fine ms = hit_line ms
answer_of (Refused why) ms = refused_line why

unfoldable pub answer_to : Bool → List ℕ → List ℕ → List ℕ → List ℕ → List ℕ
answer_to by rs nodes pool h = answer_of (search_verdict by rs nodes pool h most_rules) (search_list by rs nodes pool h)

abbrev pub on_head : (List ℕ → List ℕ) → ℕ → Option (List ℕ) → List ℕ
on_head answer k none = refused_line (wrong_at k)
on_head answer k (some h) = answer h

unfoldable pub line_reply : (List ℕ → List ℕ) → ℕ → List ℕ → List ℕ
line_reply answer k l = on_head answer k (head_in l)
