-- What a step left, by its answer: the words are within those that were lent, and their text is the step's.
use Rattle.std.specs.Prelude.{Err, Result}
use Rattle.builder.specs.declared.step.Step.{Step}
use Rattle.builder.specs.Said.{Stopped, Whole}
use Prim.Native.Nat.{ℕ, ◌*◌}
use mathlib.Core.Path.{◌≡◌, refl}
use mathlib.Core.List.{List}
use lib.ListN.{take}
use Rattle.refusals.specs.declared.Refusal.{Refusal}
use Rattle.trees.specs.Words.{node_words}
use Rattle.tree_file.specs.Writing.{TreeWritten, PartWritten}
use Rattle.policy.specs.Steps.{Within, StepWithin, StepSaid}

module _ {s : Result Step Refusal} (nodes pool : List ℕ) where
  -- the words of a tree that is whole
  pub whole_within : {k p : ℕ} → s ≡ Whole k p → StepWithin s nodes pool → Within k p nodes pool
  whole_within e w = rw e at w

  -- those of a part
  pub stopped_within : {k p : ℕ} → s ≡ Stopped k p → StepWithin s nodes pool → Within k p nodes pool
  stopped_within e w = rw e at w

  -- a refusal writes nothing
  pub refused_said :
      (n : ℕ) (out : List ℕ) {why : Refusal} → s ≡ Err why → StepSaid n s nodes pool out (Err why) out
  refused_said n out e = rw e (refl, refl)

  module _ (n : ℕ) {before after : List ℕ} {a : Result ℕ Refusal} {k p : ℕ} where
    -- the text of a tree that is whole is a tree's file
    pub whole_said :
        s ≡ Whole k p → TreeWritten n (take (k * node_words) nodes) (take p pool) before a after →
        StepSaid n s nodes pool before a after
    whole_said e h = rw e h

    -- that of a part is a part's file
    pub stopped_said :
        s ≡ Stopped k p → PartWritten n (take (k * node_words) nodes) (take p pool) before a after →
        StepSaid n s nodes pool before a after
    stopped_said e h = rw e h
