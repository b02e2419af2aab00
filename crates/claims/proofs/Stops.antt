-- What is claimed of a build that is stopped and gone on with holds.
use Rattle.built.proofs.FromStop.{stop_fine}
use Rattle.builder.proofs.StopCalls.{some_whole, some_stopped, some_refused, on_whole, on_stopped, on_refused}
use Rattle.builder.proofs.Reaching.{reached_stop}
use Rattle.builder.proofs.PartCalls.{part_refused, part_serves, part_in_whole, part_goes_on}
use Rattle.builder.proofs.ShortSteps.{some_short_iff, part_short_iff}
use Rattle.claims.specs.Stops.{Stopping, Others}

pub stopping_claim : Stopping
stopping_claim =
    record {
      first_whole = λ rs ns es x y most n p w. some_whole rs most w;
      first_stop = λ rs ns es x y most k p w. some_stopped rs most w;
      first_refused = λ rs ns es x y most why w. some_refused rs most w;
      first_short = λ rs ns es most why fine. some_short_iff rs ns es why most fine;
      reached = λ rs part kept r. reached_stop rs r;
      taken = λ rs part kept j s. stop_fine rs j part kept s;
      next_stop = λ rs part kept ns es x y j most k p s w. on_stopped rs j part kept s most w;
      ends_whole = λ rs part kept ns es x y j most n p s w. on_whole rs j part kept s most w;
      ends_refused = λ rs part kept ns es x y j most why s w. on_refused rs j part kept s most w;
    }

pub others_claim : Others
others_claim =
    record {
      refused = λ rs part kept ns es n most why q. part_refused rs n part kept most q;
      serves = λ rs part kept ns es x y n most m p w. part_serves rs n part kept most w;
      begins = λ rs part kept ns es x y n most m p w. part_in_whole rs n part kept most w;
      goes_on = λ rs part kept ns es x y n most k p w. part_goes_on rs n part kept most w;
      short = λ rs part kept ns es n most why fine. part_short_iff rs ns es why n part kept most fine;
    }
