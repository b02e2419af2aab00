-- What growing, the build and a step say, besides a refusal. Definitions only.
--   LooksBud          the part is not begun
--   LooksLeaf n       it begins with a leaf of n entries
--   LooksCut f v n    it begins with a cut of field f at value v, whose box n boxes meet
--   Grows m e o       the part ends before node m, with e entries then, and o says whether it goes on
--   BuiltTree n p     the tree has n nodes and p words of the pool
--   Whole n p         so many are there, and the tree is whole
--   Stopped n p       so many are there, and the tree goes on
use Rattle.std.specs.Prelude.{ℕ, Bool, Option, Some, None, Result, Ok}
use Rattle.refusals.specs.declared.Refusal.{Refusal}
use Rattle.builder.specs.declared.build.Size.{Size}
use Rattle.builder.specs.declared.step.Step.{Step}
use Rattle.builder.specs.declared.step.Step.TheVariants as step
use Rattle.builder.specs.declared.grow.Grown.{Grown}
use Rattle.builder.specs.declared.grow.Look.{Look}
use Rattle.builder.specs.declared.grow.Look.TheVariants as look

pattern abbrev pub LooksBud : Result (Option Look) Refusal
LooksBud = Ok None

pattern abbrev pub LooksLeaf : ℕ → Result (Option Look) Refusal
LooksLeaf n = Ok (Some (look.Leaf n))

pattern abbrev pub LooksCut : ℕ → ℕ → ℕ → Result (Option Look) Refusal
LooksCut f v n = Ok (Some (look.Cut f v n))

abbrev pub Grows : ℕ → ℕ → Bool → Result Grown Refusal
Grows m e o = Ok (record { next = m; entries = e; goes_on = o })

abbrev pub BuiltTree : ℕ → ℕ → Result Size Refusal
BuiltTree n p = Ok (record { nodes = n; pool = p })

pattern abbrev pub Whole : ℕ → ℕ → Result Step Refusal
Whole n p = Ok (step.Whole n p)

pattern abbrev pub Stopped : ℕ → ℕ → Result Step Refusal
Stopped n p = Ok (step.Stopped n p)
