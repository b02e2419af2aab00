-- What the steps of the scan leave, once the header is legal. Definitions only.
--   MatchesListed        the matches are listed, if there is room for them
--   MatchesKept          the matches are stored as far as there is room, and counted
--   FirstIs rs h r       r is the first match
use Rattle.rules.specs.declared.line.Hit.{Hit}
use Rattle.refusals.specs.declared.Refusal.{Refusal}
use Rattle.std.specs.Prelude.{ℕ, ◌≡◌, List, length, Option, Result}
use Rattle.facts.specs.Lists.{up_from, Kept}
use Rattle.refusals.specs.Paper.{success}
use Rattle.refusals.specs.Order.{room_verdict}
use Rattle.rules.specs.Matching.{matches}
use Rattle.rules.specs.LineAll.{Lists}
use Rattle.rules.specs.LineFirst.{paper, first_of}
use Rattle.rules.specs.Scan.{scan_count, scanned}

abbrev pub MatchesListed : List ℕ → List ℕ → List ℕ → Result ℕ Refusal → List ℕ → Type 0
MatchesListed rs h before r after =
    Lists (room_verdict (length (scanned rs h)) (length before)) (scanned rs h) before r after

abbrev pub MatchesKept : List ℕ → List ℕ → List ℕ → ℕ → List ℕ → Type 0
MatchesKept rs h before n after = Kept (matches rs h) (up_from 0 (scan_count rs)) before n after

pub record FirstIs (rs h : List ℕ) (r : Result (Option Hit) Refusal) : Type 0 where
  pub is : paper r ≡ success (first_of rs (scanned rs h))
