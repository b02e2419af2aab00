-- What the compiler writes in steps, from the bytes of its two files. Definitions only.
--   part_verdict rs p     what is refused of the part p that a file holds, for the list rs
--   text_or v s           the text s; the line of a refusal where v refuses
--   grown_to rs e         what is written of the nodes of the list's tree below e
--   first_step rs most    what is written of a step from nothing
--   next_step rs p most   of a step from the part p: where p is refused its line, and then what is written of a step
--                         from nothing
--   first_output f most   all that is written of a step from nothing, f being the rule file: a refused list has its
--                         line
--   next_output f g most  the same of a step from the part file g
use Rattle.std.specs.Prelude.{ℕ, List, ◌++◌}
use Rattle.std.proofs.Math.Option.{Option}
use Rattle.refusals.specs.Verdict.{Verdict}
use Rattle.refusals.specs.Verdict.{Fine, Refused}
use Rattle.refusals.specs.Order.{◌then◌}
use Rattle.rules.specs.Words.{rule_count}
use Rattle.rules.specs.Good.{list_verdict}
use Rattle.tree_check.specs.PartCheck.{so_far_verdict}
use Rattle.built.specs.BuiltTree.{built_tree}
use Rattle.text.specs.Text.{Reading}
use Rattle.tree_file.specs.TreeText.{Tree}
use Rattle.tree_file.specs.Reading.{nodes_in, pool_in}
use Rattle.policy.specs.Files.{list_in, part_of}
use Rattle.policy.specs.Output.{own_verdict, verdict_line, on_list}
use Rattle.policy.specs.TakePart.{made_for}
use Rattle.policy.specs.Steps.{step_text, step_verdict, some_verdict, some_text, on_verdict, on_text}

unfoldable pub part_verdict : List ℕ → Reading Tree → Verdict
part_verdict rs p = own_verdict p then so_far_verdict rs (made_for p) (nodes_in p) (pool_in p)

abbrev pub text_or : Verdict → List ℕ → List ℕ
text_or Fine s = s
text_or (Refused why) s = verdict_line (Refused why)

abbrev pub grown_to : List ℕ → ℕ → List ℕ
grown_to rs e =
    text_or (step_verdict (list_verdict rs) e (built_tree rs)) (step_text (rule_count rs) e (built_tree rs))

abbrev pub first_step : List ℕ → ℕ → List ℕ
first_step rs most = text_or (some_verdict rs most) (some_text rs most)

abbrev pub on_part : Verdict → List ℕ → List ℕ → List ℕ
on_part Fine on anew = on
on_part (Refused why) on anew = verdict_line (Refused why) ++ anew

unfoldable pub next_step : List ℕ → Reading Tree → ℕ → List ℕ
next_step rs p most =
    let part = nodes_in p in
    let kept = pool_in p in
    on_part (part_verdict rs p) (text_or (on_verdict rs (made_for p) part kept most) (on_text rs part kept most))
    (first_step rs most)

unfoldable pub first_output : Option (List ℕ) → ℕ → List ℕ
first_output f most = on_list (list_in f) (λ rs. first_step rs most)

unfoldable pub next_output : Option (List ℕ) → Option (List ℕ) → ℕ → List ℕ
next_output f g most = on_list (list_in f) (λ rs. next_step rs (part_of g) most)
