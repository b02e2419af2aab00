-- The list of matches: what stands in it, that it rises, and what its head is; of the rules below any number.
use Prim.Native.Nat.{ℕ, ◌≤◌, ◌<◌}
use native.Mathlib.Omega.{arith}
use mathlib.Core.Bool.{true, false≢true}
use mathlib.Core.Path.{◌≡◌, refl}
use mathlib.Core.Logic.{◌↔◌}
use mathlib.Core.List.{List, [], ◌∷◌}
use lib.ListN.{length, length-append}
use Rattle.facts.specs.Lists.{up_from, keep, has, rises, written}
use Rattle.facts.proofs.Bools.{fails}
use Rattle.facts.proofs.Members.{has_first, kept_iff, up_iff}
use Rattle.facts.proofs.Rising.{rises_first, rises_cons, rises_kept, rises_up, rises_low}
use Rattle.facts.proofs.Setting.{written_front}
use Rattle.rules.specs.Words.{rule_count, action_of}
use Rattle.rules.specs.Matching.{matches, matching}
use Rattle.rules.specs.LineFirst.{first_of}
use Rattle.rules.specs.Found.{AllMatches, FirstMatch, NoMatch}

module _ (rs h : List ℕ) (m : ℕ) where
  abbrev found : List ℕ
  found = keep (matches rs h) (up_from 0 m)

  -- a number is found exactly where it is below m and its rule matches
  found_iff : (r : ℕ) → (has found r ≡ true) ↔ ((r < m) × (matches rs h r ≡ true))
  found_iff r = (
    λ e. let t = (kept_iff (matches rs h) (up_from 0 m) r).0 e in ((up_iff m r).0 t.0, t.1),
    λ t. (kept_iff (matches rs h) (up_from 0 m) r).1 ((up_iff m r).1 t.0, t.1),
  )

  -- what is found rises, so that each number stands there once
  found_rises : rises 0 found ≡ true
  found_rises = rises_kept (matches rs h) 0 (up_from 0 m) (rises_up m 0)

  -- what is found stands in front of the words in which it was written
  pub all_found : (n : ℕ) (w v : List ℕ) → length found ≡ n → v ≡ written found w → AllMatches m rs h n v
  unfolding written
  all_found n w v e left =
      let front = written_front found w n e in
      record {
        there = rw left (simp length-append (omega arith));
        listed = λ r. rw (left, front) (found_iff r);
        rising = rw (left, front) found_rises;
      }

  -- the head of what is found is the lowest that matches, and what is said with it is its action
  pub first_found : (ms : List ℕ) {n a : ℕ} → found ≡ ms → n ∷ a ∷ [] ≡ first_of rs ms → FirstMatch m rs h n a
  first_found [] e q = let z : ◌≡◌ {A = ℕ} 0 1 = cc in absurd (omega arith)
  first_found (r ∷ rest) {n} {a} e q =
      let same : n ≡ r = cc in
      let action : a ≡ action_of rs r = cc in
      rw same
      (record {
        below = t.0;
        hits = t.1;
        lowest = λ q l. fails (matches rs h q) (λ hit. absurd (omega (arith, low q hit l)));
        action = action;
      })
    where
      t : (r < m) × (matches rs h r ≡ true)
      t = (found_iff r).0 (rw e (has_first r rest r refl))

      low : (q : ℕ) → matches rs h q ≡ true → q < r → r ≤ q
      low q hit l =
          rises_low r (r ∷ rest) q
          (rises_cons r r rest (omega arith) (rises_first 0 r rest (rw e at found_rises)).1)
          (rw e at ((found_iff q).1 (omega (arith, t.0), hit)))

  -- where nothing is found no rule below m matches
  pub none_found : (ms : List ℕ) → found ≡ ms → [] ≡ first_of rs ms → NoMatch m rs h
  unfolding has
  none_found [] e q r l = fails (matches rs h r) (λ t. false≢true (rw e at ((found_iff r).1 (l, t))))
  none_found (x ∷ xs) e q r l = let z : ◌≡◌ {A = ℕ} 0 1 = cc in absurd (omega arith)

-- a number is listed exactly where it is a rule's number and the rule matches
pub listed_iff_matches :
    (rs h : List ℕ) (r : ℕ) → (has (matching rs h) r ≡ true) ↔ ((r < rule_count rs) × (matches rs h r ≡ true))
unfolding matching
listed_iff_matches rs h r = found_iff rs h (rule_count rs) r
