-- `rule_file::write::list_write` meets its contract: the list decides first, to the actions of its kind. Assumes
-- nothing.
use Prim.Native.Nat.{ℕ}
use mathlib.Core.Path.{◌≡◌, refl, sym, ap, ◌∙◌}
use Rattle.refusals.proofs.Order.{then_refused}
use Rattle.refusals.proofs.Passing.{passed}
use Rattle.refusals.proofs.Promises.{writes_refused, writes_after}
use Rattle.rules.specs.Good.{list_verdict_to}
use Rattle.rule_file.specs.Kinds.{most_action}
use Rattle.rule_file.proofs.write.list_write.Goals as goal
use Rattle.rule_file.proofs.write.list_write.Goals.{After-verdict_to}

-- what the list comes to
verdict :
    (v : goal.After-verdict_to) →
    v.verdict_to.result ≡ list_verdict_to (most_action v.args.kind) v.args.rules.now
verdict v =
    v.verdict_to.ensures ∙ ap (λ (m : ℕ). list_verdict_to m v.args.rules.now) v.most_action.ensures

pub write_whole-requires : goal.write_whole-requires
write_whole-requires c = sym (verdict (goal.at.write_whole-requires c).After-verdict_to) ∙ c.in_ok-verdict_to.was

pub returns-in_err-verdict_to : goal.returns-in_err-verdict_to
returns-in_err-verdict_to c =
    let list = sym (verdict (goal.at.returns-in_err-verdict_to c).After-verdict_to) ∙ c.in_err-verdict_to.was in
    rw (passed _ c.from_residual.ensures.1) (writes_refused (then_refused _ list) refl refl)

pub returns : goal.returns
returns c = let list = sym (verdict (goal.at.returns c).After-verdict_to) ∙ c.in_ok-verdict_to.was in
    writes_after list c.write_whole.ensures
