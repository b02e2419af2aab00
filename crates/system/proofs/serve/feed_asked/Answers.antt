-- `system::serve::feed_asked` meets its contract, by what is asked. Assumes nothing.
use Rattle.system.specs.Turns.{answer_for}
use Rattle.system.proofs.Turning.{asked_fed}
use Rattle.system.proofs.serve.feed_asked.Goals as goal

pub returns-in-Matches-clause-fed : goal.returns-in-Matches-clause-fed
unfolding answer_for
returns-in-Matches-clause-fed c = asked_fed _ _ _ c.in-Matches.is c.feed.ensures.fed

pub returns-in-Misses-clause-fed : goal.returns-in-Misses-clause-fed
unfolding answer_for
returns-in-Misses-clause-fed c = asked_fed _ _ _ c.in-Misses.is c.feed_why.ensures.fed
