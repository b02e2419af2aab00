-- `wickorchard::answer` meets its contract: what is refused of the tree is told, and whoever serves answers as the list
-- does. Assumes nothing.
use native.Mathlib.Omega.{arith}
use mathlib.Core.Path.{sym, ap, ◌∙◌}
use lib.Seq.{length-take-le}
use Rattle.policy.specs.declared.serving.Serving.{Serving}
use Rattle.policy.proofs.Refusing.{serving_refused_as}
use Rattle.system.proofs.Running.{served_untold, served_told}
use Rattle.wickorchard.proofs.Serving.{serving_fits, serving_answers}
use Rattle.wickorchard.proofs.answer.Goals as goal

pub returns-then-not-say_verdict : goal.returns-then-not-say_verdict
returns-then-not-say_verdict c =
    served_untold _ _ (omega arith) c.load-file.ensures (ap (λ (s : Serving). s.refused) c.who_serves-serving.ensures ∙ serving_refused_as _ _ _ (omega arith) (omega arith) c.take_tree-taken.ensures) c.say_verdict.ensures (c.if-not-say_verdict.true)

pub slice_bounds-nodes-end : goal.slice_bounds-nodes-end
slice_bounds-nodes-end c =
    (serving_fits _ _ _ _ c.who_serves-serving.ensures).0

pub slice_bounds-serve-end : goal.slice_bounds-serve-end
slice_bounds-serve-end c =
    sym (length-take-le _ _ (serving_fits _ _ _ _ c.who_serves-serving.ensures).0)

pub slice_bounds-pool-end : goal.slice_bounds-pool-end
slice_bounds-pool-end c =
    (serving_fits _ _ _ _ c.who_serves-serving.ensures).1

pub slice_bounds-serve-end-2 : goal.slice_bounds-serve-end-2
slice_bounds-serve-end-2 c =
    sym (length-take-le _ _ (serving_fits _ _ _ _ c.who_serves-serving.ensures).1)

pub returns : goal.returns
returns c =
    served_told _ _ (omega arith) c.load-file.ensures (ap (λ (s : Serving). s.refused) c.who_serves-serving.ensures ∙ serving_refused_as _ _ _ (omega arith) (omega arith) c.take_tree-taken.ensures) c.say_verdict.ensures c.if-not-say_verdict.false (serving_answers _ _ _ _ c.who_serves-serving.ensures) c.serve.ensures
