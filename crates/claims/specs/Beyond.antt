-- Beyond the scope: what the program writes, from the bytes of its two files and of its input; and the file that a list
-- is compiled into, at once and in steps. A file is its bytes; or none, where it was not read to its end. Statements
-- only.
use Rattle.std.specs.Prelude.{ℕ, ◌+◌, ◌≤◌, ◌<◌, max, ◌↔◌, ◌≡◌, List, ◌++◌, length}
use Rattle.std.proofs.Math.Option.{Option, some}
use Rattle.refusals.specs.declared.Refusal.{Refusal}
use Rattle.refusals.specs.Verdict.{Fine, Refused}
use Rattle.rules.specs.Words.{rule_count}
use Rattle.rules.specs.Good.{list_verdict}
use Rattle.built.specs.Layout.{size}
use Rattle.built.specs.BuiltTree.{built_tree}
use Rattle.text.specs.Text.{good, refused}
use Rattle.console.specs.declared.gather.Gathering.{Gathering}
use Rattle.console.specs.Gathered.{begun, after, answers, last_reply, input_replies}
use Rattle.policy.specs.Files.{list_in, tree_of, part_of, most_file}
use Rattle.policy.specs.Output.{serving_verdict, by_list, verdict_line, output, TreeServes}
use Rattle.policy.specs.Compiled.{largest_build, built_text}
use Rattle.policy.specs.Steps.{step_text, step_verdict, some_verdict, some_text, on_verdict, on_text}
use Rattle.policy.specs.StepOutput.{part_verdict, text_or, grown_to, first_step, next_step, first_output, next_output}

pub record Program : Type 0 where
  -- a rule file that is refused has its line written, and nothing else
  pub stops :
      (f g : Option (List ℕ)) (s : List ℕ) (why : Refusal) → list_in f ≡ refused why →
      output f g s ≡ verdict_line (Refused why)
  -- whatever the tree file holds, after the line of a refused tree the input gets the replies of the written list
  pub replies :
      (f g : Option (List ℕ)) (s rs : List ℕ) → list_in f ≡ good rs →
      output f g s ≡ verdict_line (serving_verdict rs (tree_of g)) ++ input_replies (by_list rs) s
  -- no tree is refused exactly where the file holds one that may serve
  pub silent : (rs : List ℕ) (g : Option (List ℕ)) → (serving_verdict rs (tree_of g) ≡ Fine) ↔ TreeServes rs g
  -- pieces of input get what they get together, and byte by byte the whole gets the replies to its lines and last part
  pub pieces :
      (answer : List ℕ → List ℕ) (g : Gathering) (p q : List ℕ) →
      answers answer g (p ++ q) ≡ answers answer g p ++ answers answer (after g p) q
  pub whole :
      (answer : List ℕ → List ℕ) (s : List ℕ) →
      answers answer begun s ++ last_reply (after begun s) ≡ input_replies answer s
  -- the text of a tree that is built, as a tree file, may serve its list, and the program can read all of it
  pub compiled :
      (rs : List ℕ) → largest_build rs ≡ Fine →
      TreeServes rs (some (built_text rs)) × (length (built_text rs) ≤ most_file)
  -- in steps, a rule file that is refused has its line written, and nothing else
  pub step_stops :
      (f g : Option (List ℕ)) (most : ℕ) (why : Refusal) → list_in f ≡ refused why →
      (first_output f most ≡ verdict_line (Refused why)) × (next_output f g most ≡ verdict_line (Refused why))
  -- a part that is refused has its line written, and then comes what a step from nothing writes
  pub step_anew :
      (f g : Option (List ℕ)) (most : ℕ) (rs : List ℕ) (why : Refusal) → list_in f ≡ good rs →
      part_verdict rs (part_of g) ≡ Refused why → next_output f g most ≡ verdict_line (Refused why) ++ first_output f most
  -- the text of a step that is fine can be read by the program
  pub step_short :
      (rs : List ℕ) (n : ℕ) (part kept : List ℕ) (most : ℕ) →
      (some_verdict rs most ≡ Fine → length (some_text rs most) ≤ most_file) ×
      (on_verdict rs n part kept most ≡ Fine → length (on_text rs part kept most) ≤ most_file)
  -- a first step writes what is grown to that many nodes; a step on from the text of one that stopped, what is grown
  -- to as many as both; and where that is the whole tree, it is what is written of the list at once
  pub step_first : (rs : List ℕ) (most : ℕ) → first_step rs most ≡ grown_to rs (max most 1)
  pub step_on :
      (rs : List ℕ) (k most : ℕ) → 0 < k → k < size (built_tree rs) →
      step_verdict (list_verdict rs) k (built_tree rs) ≡ Fine →
      next_step rs (part_of (some (step_text (rule_count rs) k (built_tree rs)))) most ≡ grown_to rs (k + max most 1)
  pub step_last :
      (rs : List ℕ) (e : ℕ) → size (built_tree rs) ≤ e → grown_to rs e ≡ text_or (largest_build rs) (built_text rs)
