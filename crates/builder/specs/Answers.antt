-- The answers of the build and of a step, by what growing from the root answers. Definitions only.
use Rattle.refusals.specs.declared.Refusal.{Refusal}
use Rattle.builder.specs.declared.step.Step.{Step}
use Rattle.builder.specs.declared.grow.Grown.{Grown}
use Rattle.builder.specs.declared.build.Size.{Size}
use Rattle.builder.specs.Said.{BuiltTree, Stopped, Whole}
use Rattle.std.specs.Prelude.{Err, Result, Ok, if◌then◌else◌}

abbrev pub built_of : Result Grown Refusal → Result Size Refusal
built_of (Err why) = Err why
built_of (Ok part) = BuiltTree part.next part.entries

abbrev pub step_of : Result Grown Refusal → Result Step Refusal
step_of (Err why) = Err why
step_of (Ok part) = if part.goes_on then Stopped part.next part.entries else Whole part.next part.entries
