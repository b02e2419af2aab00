-- What the program writes, from the bytes of its two files and of its input. Definitions only.
--   serving_verdict rs t  what is refused of the tree t that a file holds, for the list rs, where there is room for any
--   by_list rs           the answer to a header by the list rs alone
--   by_serving rs t      the answer to a header by whoever serves the list rs, the tree file holding t
--   verdict_line v       the line of a refusal; nothing where the verdict is fine
--   output f g s         all that is written, f being the rule file, g the tree file and s the input: the line of a
--                        refused list; else that of a refused tree, if it is, and then the replies to the input
--   TreeServes rs f      the tree file f holds a tree that may serve the list rs
use Rattle.std.specs.Prelude.{ℕ, false, ◌≡◌, List, [], ◌++◌, take}
use Rattle.std.proofs.Math.Option.{Option}
use Rattle.refusals.specs.Verdict.{Verdict}
use Rattle.refusals.specs.Verdict.{Fine, Refused}
use Rattle.refusals.specs.Order.{◌then◌}
use Rattle.tree_check.specs.TreeCheck.{check_verdict}
use Rattle.tree_check.specs.Serves.{Serves}
use Rattle.text.specs.Text.{Reading, good, refused}
use Rattle.tree_file.specs.TreeText.{Tree, tree}
use Rattle.tree_file.specs.Reading.{nodes_in, pool_in}
use Rattle.console.specs.Lines.{refused_line}
use Rattle.console.specs.Replies.{answer_to}
use Rattle.console.specs.Gathered.{input_replies}
use Rattle.policy.specs.declared.serving.Serving.{Serving}
use Rattle.policy.specs.Files.{list_in, tree_of}
use Rattle.policy.specs.WhoServes.{serving}

abbrev pub own_verdict : {R : Type 0} → Reading R → Verdict
own_verdict (good r) = Fine
own_verdict (refused why) = Refused why

unfoldable pub serving_verdict : List ℕ → Reading Tree → Verdict
serving_verdict rs t = own_verdict t then check_verdict rs (nodes_in t) (pool_in t)

unfoldable pub by_list : List ℕ → List ℕ → List ℕ
by_list rs = answer_to false rs [] []

abbrev pub answers_by : Serving → List ℕ → List ℕ → List ℕ → List ℕ → List ℕ
answers_by s rs ns es = answer_to s.accepted rs (take s.nodes ns) (take s.pool es)

unfoldable pub by_serving : List ℕ → Reading Tree → List ℕ → List ℕ
by_serving rs t = answers_by (serving (serving_verdict rs t) (nodes_in t) (pool_in t)) rs (nodes_in t) (pool_in t)

abbrev pub verdict_line : Verdict → List ℕ
verdict_line Fine = []
verdict_line (Refused why) = refused_line why

abbrev pub on_list : Reading (List ℕ) → (List ℕ → List ℕ) → List ℕ
on_list (refused why) go = verdict_line (Refused why)
on_list (good rs) go = go rs

unfoldable pub output : Option (List ℕ) → Option (List ℕ) → List ℕ → List ℕ
output f g s =
    on_list (list_in f) (λ rs. verdict_line (serving_verdict rs (tree_of g)) ++ input_replies (by_serving rs (tree_of g)) s)

pub record TreeServes (rs : List ℕ) (f : Option (List ℕ)) : Type 0 where
  pub count : ℕ
  pub nodes : List ℕ
  pub pool : List ℕ
  pub holds : tree_of f ≡ good (tree count nodes pool)
  pub serves : Serves rs nodes pool
