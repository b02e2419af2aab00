-- What the compiler writes of one step, from the bytes of its two files.
use Prim.Native.Nat.{ℕ, ◌≤◌}
use mathlib.Core.Path.{◌≡◌, ap, ◌∙◌}
use mathlib.Core.List.{List, ◌++◌}
use mathlib.Core.Option.{Option}
use lib.ListN.{length}
use Rattle.refusals.specs.declared.Refusal.{Refusal}
use Rattle.refusals.specs.Verdict.{Fine, Refused}
use Rattle.text.specs.Text.{Reading, good, refused}
use Rattle.tree_file.specs.Reading.{nodes_in, pool_in}
use Rattle.policy.specs.Files.{list_in, part_of, most_file}
use Rattle.policy.specs.Output.{verdict_line, on_list}
use Rattle.policy.specs.TakePart.{made_for}
use Rattle.policy.specs.Steps.{some_verdict, some_text, on_verdict, on_text}
use Rattle.policy.specs.StepOutput.{part_verdict, text_or, first_step, next_step, first_output, next_output}
use Rattle.policy.proofs.StepSize.{some_judged, on_judged, step_short}

module _ (f g : Option (List ℕ)) (most : ℕ) where
  first_by : Reading (List ℕ) → List ℕ
  first_by a = on_list a (λ rs. first_step rs most)

  next_by : Reading (List ℕ) → List ℕ
  next_by a = on_list a (λ rs. next_step rs (part_of g) most)

  -- a rule file that is refused has its line written, and nothing else
  pub steps_refused :
      {why : Refusal} → list_in f ≡ refused why →
      (first_output f most ≡ verdict_line (Refused why)) × (next_output f g most ≡ verdict_line (Refused why))
  unfolding first_output next_output first_by next_by
  steps_refused e = (ap first_by e, ap next_by e)

  module _ {rs : List ℕ} (e : list_in f ≡ good rs) where
    -- a step from nothing writes its text, or its refusal
    pub first_written : first_output f most ≡ text_or (some_verdict rs most) (some_text rs most)
    unfolding first_output first_by
    first_written = ap first_by e

    -- a part that is refused has its line written, and then comes what a step from nothing writes
    pub next_anew :
        {why : Refusal} → part_verdict rs (part_of g) ≡ Refused why →
        next_output f g most ≡ verdict_line (Refused why) ++ first_output f most
    unfolding next_output next_step next_by
    next_anew q = ap next_by e ∙ rw (first_written, q)

    -- a step from a part that is not writes its text, or its refusal
    pub next_written :
        part_verdict rs (part_of g) ≡ Fine →
        next_output f g most ≡
        text_or (on_verdict rs (made_for (part_of g)) (nodes_in (part_of g)) (pool_in (part_of g)) most)
        (on_text rs (nodes_in (part_of g)) (pool_in (part_of g)) most)
    unfolding next_output next_step next_by
    next_written q = ap next_by e ∙ rw q

-- the text of a step that is fine is no longer than a file may be
pub steps_short :
    (rs : List ℕ) (n : ℕ) (part kept : List ℕ) (most : ℕ) →
    (some_verdict rs most ≡ Fine → length (some_text rs most) ≤ most_file) ×
    (on_verdict rs n part kept most ≡ Fine → length (on_text rs part kept most) ≤ most_file)
steps_short rs n part kept most =
    (λ e. step_short rs (some_judged rs most) e, λ e. step_short rs (on_judged rs n part kept most) e)
