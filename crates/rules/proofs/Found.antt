-- What the answers of the line search and of the scan mean: what is listed is what matches, the first is the lowest
-- match, and none means none. A scan of any words speaks of the rules that it looks at, which in a good list are all.
use Rattle.std.specs.Prelude.{Ok}
use Rattle.rules.specs.Hits.{Rule, NoRule}
use Prim.Native.Nat.{ℕ}
use native.Mathlib.Nat.{min-eq_left}
use native.Mathlib.Omega.{arith}
use mathlib.Core.Path.{◌≡◌, refl}
use mathlib.Core.List.{List}
use lib.ListN.{length}
use Rattle.facts.specs.Lists.{up_from, keep}
use Rattle.refusals.specs.Verdict.{Verdict}
use Rattle.refusals.specs.Verdict.{Fine}
use Rattle.refusals.proofs.Promises.{said_by, fine_by, left_written}
use Rattle.rules.specs.Words.{rule_count}
use Rattle.rules.specs.Good.{list_verdict}
use Rattle.rules.specs.Matching.{matches, matching}
use Rattle.rules.specs.LineAll.{Lists, LineAllSearched}
use Rattle.rules.specs.LineFirst.{LineFirstSearched}
use Rattle.rules.specs.Scan.{scan_count, scanned, ScanAllSearched, ScanFirstSearched}
use Rattle.rules.specs.Found.{AllMatches, FirstMatch, NoMatch}
use Rattle.rules.proofs.Listing.{all_found, first_found, none_found}
use Rattle.rules.proofs.Searches.{few_rules}

-- a good list has no more rules than a scan looks at
pub scan_counts : (rs : List ℕ) → list_verdict rs ≡ Fine → scan_count rs ≡ rule_count rs
unfolding scan_count
scan_counts rs e = min-eq_left (omega (arith, few_rules rs e))

module _ (rs h : List ℕ) where
  -- what lists the matches below m lists exactly these
  lists_found :
      (m : ℕ) {v : Verdict} {before after : List ℕ} {n : ℕ} →
      Lists v (keep (matches rs h) (up_from 0 m)) before (Ok n) after → AllMatches m rs h n after
  lists_found m {before = before} {after = after} {n = n} w =
      let f = fine_by (said_by w) refl in
      let size : length (keep (matches rs h) (up_from 0 m)) ≡ n = (let e = f.1 in cc) in
      all_found rs h m n before after size (left_written w f.0)

  -- the line search lists exactly the rules that match, rising
  pub line_all_found :
      (before after : List ℕ) (n : ℕ) → LineAllSearched rs h before (Ok n) after →
      AllMatches (rule_count rs) rs h n after
  unfolding matching
  line_all_found before after n w = lists_found (rule_count rs) w

  -- a scan lists exactly those that match of the rules that it looks at, rising
  pub scan_all_found :
      (before after : List ℕ) (n : ℕ) → ScanAllSearched rs h before (Ok n) after →
      AllMatches (scan_count rs) rs h n after
  unfolding scanned
  scan_all_found before after n w = lists_found (scan_count rs) w

  -- the first match of the line search is the lowest rule that matches, with its action
  pub line_first_found :
      (n a : ℕ) → LineFirstSearched rs h (Rule n a) → FirstMatch (rule_count rs) rs h n a
  unfolding matching
  line_first_found n a p = first_found rs h (rule_count rs) (matching rs h) refl (fine_by p refl).1

  -- that of a scan is the lowest that matches of the rules that it looks at, with its action
  pub scan_first_found : (n a : ℕ) → ScanFirstSearched rs h (Rule n a) → FirstMatch (scan_count rs) rs h n a
  unfolding scanned
  scan_first_found n a p = first_found rs h (scan_count rs) (scanned rs h) refl (fine_by p refl).1

  -- where the line search finds none, no rule matches
  pub line_none_found : LineFirstSearched rs h NoRule → NoMatch (rule_count rs) rs h
  unfolding matching
  line_none_found p = none_found rs h (rule_count rs) (matching rs h) refl (fine_by p refl).1

  -- where a scan finds none, no rule that it looks at matches
  pub scan_none_found : ScanFirstSearched rs h NoRule → NoMatch (scan_count rs) rs h
  unfolding scanned
  scan_none_found p = none_found rs h (scan_count rs) (scanned rs h) refl (fine_by p refl).1
