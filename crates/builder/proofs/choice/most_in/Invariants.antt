-- `builder::choice::most_in` meets its contract. The invariant: what is held has the most values of the fields before
-- this one, and the lent words are as many as before. Assumes nothing.
use mathlib.Core.Path.{◌≡◌}
use lib.ListN.{length}
use Rattle.fields.specs.Words.{field_count}
use Rattle.built.specs.CutValues.{cut_values}
use Rattle.builder.specs.BoxWords.{boxes_in}
use Rattle.builder.specs.ChoiceSteps.{MostFound}
use Rattle.builder.proofs.choice.most_in.Given as goal

abbrev pub invariant-loop-f : goal.invariant-loop-f
invariant-loop-f l = (length l.values ≡ length l.initial.values) × (length l.spare ≡ length l.initial.spare) ×
    MostFound (cut_values field_count (boxes_in l.boxes) l.bounds) l.f l.most
