-- The scan: the line search that judges no list and takes any words. Definitions only.
--   most_scanned             the most rules that a scan looks at: those whose numbers are words of 32 bits
--   scan_count rs            how many it looks at: the whole rules of rs, up to the most; words past the last whole
--                            rule are no rule
--   scanned rs h             the numbers of those that match h, rising; for a good list all that match
--   scan_verdict rs h room   3, then 4 where the room is less than the number of matches
--   ScanAllSearched          the promise: it lists the numbers that match
--   ScanFirstSearched        the promise: 3; else the lowest number that matches, and its rule's action
use Rattle.rules.specs.declared.line.Hit.{Hit}
use Rattle.refusals.specs.declared.Refusal.{Refusal}
use Rattle.std.specs.Prelude.{ℕ, ◌^◌, min, List, length, Option, Result}
use Rattle.facts.specs.Lists.{up_from, keep}
use Rattle.refusals.specs.Verdict.{Verdict}
use Rattle.refusals.specs.Order.{room_verdict, ◌then◌}
use Rattle.refusals.specs.Promises.{Says}
use Rattle.fields.specs.Headers.{header_verdict}
use Rattle.rules.specs.Words.{rule_count}
use Rattle.rules.specs.Matching.{matches}
use Rattle.rules.specs.LineAll.{Lists}
use Rattle.rules.specs.LineFirst.{paper, first_of}

abbrev pub most_scanned : ℕ
most_scanned = 2 ^ 32

unfoldable pub scan_count : List ℕ → ℕ
scan_count rs = min (rule_count rs) most_scanned

unfoldable pub scanned : List ℕ → List ℕ → List ℕ
scanned rs h = keep (matches rs h) (up_from 0 (scan_count rs))

unfoldable pub scan_verdict : List ℕ → List ℕ → ℕ → Verdict
scan_verdict rs h room = header_verdict h then room_verdict (length (scanned rs h)) room

abbrev pub ScanAllSearched : List ℕ → List ℕ → List ℕ → Result ℕ Refusal → List ℕ → Type 0
ScanAllSearched rs h before r after = Lists (scan_verdict rs h (length before)) (scanned rs h) before r after

abbrev pub ScanFirstSearched : List ℕ → List ℕ → Result (Option Hit) Refusal → Type 0
ScanFirstSearched rs h r = Says paper (header_verdict h) (first_of rs (scanned rs h)) r
