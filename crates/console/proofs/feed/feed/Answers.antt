-- `console::feed::feed` meets its contract: the list is judged, and then the piece is answered. Assumes nothing.
use Rattle.console.proofs.Judging.{judged_fed}
use Rattle.console.proofs.feed.feed.Goals as goal

pub returns : goal.returns
returns c =
    record { fed = judged_fed _ _ _ _ c.by_of.ensures c.feed_by.ensures.fed; bounded = c.feed_by.ensures.bounded }
