-- The line search and the scan: each answer from what was found on the way to it.
use Rattle.std.specs.Prelude.{Err, Option, Result}
use Rattle.rules.specs.declared.line.Hit.{Hit}
use Rattle.rules.specs.Hits.{NoRule, Rule}
use Prim.Native.Nat.{ℕ, ◌≤◌, ◌<◌}
use native.Mathlib.Nat.{min-eq_left, min-le_left, min-le_right}
use native.Mathlib.Omega.{arith}
use mathlib.Core.Bool.{Bool}
use mathlib.Core.Path.{◌≡◌, refl}
use mathlib.Core.List.{List, [], ◌∷◌}
use lib.ListN.{length}
use Rattle.facts.specs.Lists.{up_from, keep}
use Rattle.facts.proofs.Steps.{length_up}
use Rattle.facts.proofs.Filling.{keep_at_most}
use Rattle.facts.proofs.Members.{has_first, kept_iff, up_iff}
use Rattle.refusals.specs.declared.Refusal.{Refusal}
use Rattle.refusals.specs.Verdict.{Fine, Refused}
use Rattle.refusals.proofs.Order.{then_refused, then_fine_iff}
use Rattle.refusals.proofs.Promises.{fine_by, says_after, writes_refused, writes_after}
use Rattle.fields.specs.Words.{field_count}
use Rattle.fields.specs.Headers.{header_verdict}
use Rattle.fields.proofs.Headers.{legal_iff}
use Rattle.rules.specs.Words.{most_rules, rule_count, action_of}
use Rattle.rules.specs.Good.{list_verdict}
use Rattle.rules.specs.Matching.{matches, matching}
use Rattle.rules.specs.LineAll.{all_verdict, LineAllSearched}
use Rattle.rules.specs.LineFirst.{first_of, LineFirstSearched}
use Rattle.rules.specs.Scan.{most_scanned, scan_count, scanned, scan_verdict, ScanAllSearched, ScanFirstSearched}
use Rattle.rules.specs.ScanSteps.{MatchesListed, FirstIs}
use Rattle.rules.proofs.Lists.{good_of_fine}

-- a legal header has five words
pub five_words : (h : List ℕ) → header_verdict h ≡ Fine → length h ≡ field_count
five_words h e = ((legal_iff h).0 e).0

-- a good list has at most `most_rules` rules
pub few_rules : (rs : List ℕ) → list_verdict rs ≡ Fine → rule_count rs ≤ most_rules
few_rules rs e = let g = good_of_fine rs e in omega (arith, g.whole, g.few)

-- a scan looks at no more rules than there are
pub scan_count_at_most : (rs : List ℕ) → scan_count rs ≤ rule_count rs
unfolding scan_count
scan_count_at_most rs = min-le_left (rule_count rs) most_scanned

-- and no more than have a word of 32 bits for their number
pub scan_count_fits : (rs : List ℕ) → scan_count rs ≤ most_scanned
unfolding scan_count
scan_count_fits rs = min-le_right (rule_count rs) most_scanned

module _ (rs h : List ℕ) where
  -- in a list of at most `most_scanned` rules a scan finds all that match
  pub scanned_of_few : rule_count rs ≤ most_scanned → scanned rs h ≡ matching rs h
  unfolding scanned scan_count matching
  scanned_of_few few = rw (min-eq_left few)

  -- so it does in a good list
  pub scanned_of_good : list_verdict rs ≡ Fine → scanned rs h ≡ matching rs h
  scanned_of_good e = scanned_of_few (omega (arith, few_rules rs e))

  -- ---- all matches

  -- where the header is refused, that is the scan's answer, and the words are as found
  pub scan_refused :
      (before : List ℕ) {why : Refusal} → header_verdict h ≡ Refused why →
      ScanAllSearched rs h before (Err why) before
  unfolding scan_verdict
  scan_refused before e = writes_refused (then_refused _ e) refl refl

  -- where it is fine, the matches are listed if there is room
  pub scan_found :
      {before : List ℕ} {r : Result ℕ Refusal} {after : List ℕ} → header_verdict h ≡ Fine →
      MatchesListed rs h before r after → ScanAllSearched rs h before r after
  unfolding scan_verdict
  scan_found e w = writes_after e w

  -- where the list is refused, that is the line search's answer, and the words are as found
  pub all_refused :
      (before : List ℕ) {why : Refusal} → list_verdict rs ≡ Refused why →
      LineAllSearched rs h before (Err why) before
  unfolding all_verdict
  all_refused before e = writes_refused (then_refused _ e) refl refl

  -- where it is fine, the line search answers as the scan
  pub all_scanned :
      {before : List ℕ} {r : Result ℕ Refusal} {after : List ℕ} → list_verdict rs ≡ Fine →
      ScanAllSearched rs h before r after → LineAllSearched rs h before r after
  unfolding all_verdict scan_verdict
  all_scanned e w = writes_after e (rw (scanned_of_good e) at w)

  -- no more rules match than are looked at
  pub scanned_at_most : length (scanned rs h) ≤ scan_count rs
  unfolding scanned
  scanned_at_most = rw (length_up (scan_count rs) 0) at (keep_at_most (matches rs h) (up_from 0 (scan_count rs)))

  -- ---- the first match

  -- the number of the first of the matches, with its action, is the first match
  pub found_first :
      {n r action : ℕ} {rest : List ℕ} → n ≡ r → scanned rs h ≡ r ∷ rest → action ≡ action_of rs r →
      FirstIs rs h (Rule n action)
  found_first l e a = record { is = rw (l, e, a) }

  -- where nothing matches there is no first match
  pub found_none : scanned rs h ≡ [] → FirstIs rs h NoRule
  found_none e = record { is = rw e }

  -- where the list is fine, the line search answers as the scan
  pub first_scanned : {r : Result (Option Hit) Refusal} → list_verdict rs ≡ Fine → ScanFirstSearched rs h r → LineFirstSearched rs h r
  first_scanned e p = says_after e (rw (scanned_of_good e) at p)

-- ---- the number of a first match, and its action

-- the action that is said with a first match is that of its rule
pub first_action : (rs ms : List ℕ) {n a : ℕ} → n ∷ a ∷ [] ≡ first_of rs ms → a ≡ action_of rs n
first_action rs [] q = let z : ◌≡◌ {A = ℕ} 0 1 = cc in absurd (omega arith)
first_action rs (r ∷ rest) {n} {a} q =
    let same : n ≡ r = cc in let action : a ≡ action_of rs r = cc in rw same action

-- the first that is kept of the numbers below k is below k
first_kept :
    (rs : List ℕ) (p : ℕ → Bool) (k : ℕ) {n a : ℕ} (ms : List ℕ) → keep p (up_from 0 k) ≡ ms →
    n ∷ a ∷ [] ≡ first_of rs ms → n < k
first_kept rs p k [] e q = let z : ◌≡◌ {A = ℕ} 0 1 = cc in absurd (omega arith)
first_kept rs p k {n} (r ∷ rest) e q =
    let same : n ≡ r = cc in
    let kept = (kept_iff p (up_from 0 k) r).0 (rw e (has_first r rest r refl)) in
    omega (arith, (up_iff k r).0 kept.0)

module _ (rs h : List ℕ) {n a : ℕ} where
  -- a rule that a scan finds has a word of 32 bits for its number
  pub scan_first_below : ScanFirstSearched rs h (Rule n a) → n < most_scanned
  unfolding scanned
  scan_first_below p =
      let below = first_kept rs (matches rs h) (scan_count rs) (scanned rs h) refl (fine_by p refl).1 in
      omega (arith, below, scan_count_fits rs)

  -- and one that the line search finds has a number below `most_rules`
  pub first_below : LineFirstSearched rs h (Rule n a) → n < most_rules
  unfolding matching
  first_below p =
      let f = fine_by p refl in
      let below = first_kept rs (matches rs h) (rule_count rs) (matching rs h) refl f.1 in
      omega (arith, below, few_rules rs ((then_fine_iff _ _).0 f.0).0)
