-- `compile::steps::begin_anew` meets its contract: the refusal is told first. Assumes nothing.
use Rattle.compile.proofs.Asked.{anew_untold, anew_told}
use Rattle.compile.proofs.steps.begin_anew.Goals as goal

pub returns-then-not-say_verdict : goal.returns-then-not-say_verdict
returns-then-not-say_verdict c =
    anew_untold _ c.say_verdict.ensures (c.if-not-say_verdict.true)

pub returns : goal.returns
returns c =
    anew_told _ c.say_verdict.ensures (c.if-not-say_verdict.false) c.write_first.ensures
