-- `policy::step::step_text` meets its contract: what the step left is written, as a tree's file or as a part's. Assumes
-- nothing.
use Rattle.std.specs.Prelude.{Ok}
use native.Mathlib.Omega.{arith}
use mathlib.Core.Path.{sym, ap}
use lib.Seq.{length-take-le}
use Rattle.policy.proofs.StepWords.{whole_within, stopped_within, whole_said, stopped_said}
use Rattle.policy.proofs.step.step_text.Goals as goal

pub overflow_mul-n : goal.overflow_mul-n
overflow_mul-n c = omega (arith, (whole_within _ _ (ap Ok c.in-Whole.is) c.requires).0)

pub slice_bounds-tree_write-end : goal.slice_bounds-tree_write-end
slice_bounds-tree_write-end c = sym (length-take-le _ _ (whole_within _ _ (ap Ok c.in-Whole.is) c.requires).0)

pub slice_bounds-tree_write-end-in-Whole : goal.slice_bounds-tree_write-end-in-Whole
slice_bounds-tree_write-end-in-Whole c = sym (length-take-le _ _ (whole_within _ _ (ap Ok c.in-Whole.is) c.requires).1)

pub overflow_mul-m : goal.overflow_mul-m
overflow_mul-m c = omega (arith, (stopped_within _ _ (ap Ok c.in-Stopped.is) c.requires).0)

pub slice_bounds-part_write-end : goal.slice_bounds-part_write-end
slice_bounds-part_write-end c = sym (length-take-le _ _ (stopped_within _ _ (ap Ok c.in-Stopped.is) c.requires).0)

pub slice_bounds-part_write-end-in-Stopped : goal.slice_bounds-part_write-end-in-Stopped
slice_bounds-part_write-end-in-Stopped c = sym (length-take-le _ _ (stopped_within _ _ (ap Ok c.in-Stopped.is) c.requires).1)

pub returns-in-Whole : goal.returns-in-Whole
returns-in-Whole c = whole_said _ _ _ (ap Ok c.in-Whole.is) c.tree_write.ensures

pub returns-in-Stopped : goal.returns-in-Stopped
returns-in-Stopped c = stopped_said _ _ _ (ap Ok c.in-Stopped.is) c.part_write.ensures
