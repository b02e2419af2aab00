-- What a list of entries lacks: the tests one by one, and what the lowest rule that is lacking says.
use Prim.Native.Nat.{ℕ, ◌<◌}
use mathlib.Core.Bool.{Bool, true, false, not}
use mathlib.Core.Path.{◌≡◌, ap}
use mathlib.Core.Logic.{◌⊎◌, inl, inr, ◌↔◌}
use mathlib.Core.List.{List}
use borrow.Author.Tests.{not-true}
use Rattle.facts.specs.Lists.{has}
use Rattle.facts.proofs.Bools.{both, join, sure, clash, fails}
use Rattle.facts.proofs.Lowest.{lowest_passes, lowest_none_iff}
use Rattle.fields.specs.Words.{field_count}
use Rattle.fields.specs.Boxes.{meets}
use Rattle.rules.specs.Words.{rule_count}
use Rattle.rules.specs.Matching.{rule_box}
use Rattle.rules.specs.Lacking.{lacking, lowest_lacking}

module _ (rs l : List ℕ) (b : List (List ℕ)) where
  -- ---- the tests, as the code makes them

  -- a rule whose box does not meet b is not lacking
  pub apart_not_lacking : (r : ℕ) → meets field_count (rule_box rs r) b ≡ false → false ≡ lacking rs l b r
  unfolding lacking
  apart_not_lacking r e = rw e

  -- of a rule whose box meets b the entries decide
  pub entries_decide :
      (r : ℕ) {t : Bool} → meets field_count (rule_box rs r) b ≡ true → t ≡ has l r → not t ≡ lacking rs l b r
  unfolding lacking
  entries_decide r e q = rw (q, e)

  -- ---- what they say

  -- a rule is lacking exactly where its box meets b and its number is not among the entries
  pub lacking_iff :
      (r : ℕ) → (lacking rs l b r ≡ true) ↔ ((meets field_count (rule_box rs r) b ≡ true) × (has l r ≡ false))
  unfolding lacking
  lacking_iff r = (
    λ e. let t = both (meets field_count (rule_box rs r) b) (not (has l r)) e in (t.0, not-true (has l r) t.1),
    λ h. join h.0 (ap not h.1),
  )

  -- the lowest rule that is lacking is lacking, and none before it is
  pub lowest_is_lacking :
      (r : ℕ) → lowest_lacking rs l b ≡ r → r < rule_count rs →
      (lacking rs l b r ≡ true) × ((q : ℕ) → q < r → lacking rs l b q ≡ false)
  unfolding lowest_lacking
  lowest_is_lacking r e u = lowest_passes (rule_count rs) (lacking rs l b) r e u

  -- none is lacking exactly where the entries have each rule whose box meets b
  pub none_lacking_iff :
      (lowest_lacking rs l b ≡ rule_count rs) ↔
      ((r : ℕ) → r < rule_count rs → meets field_count (rule_box rs r) b ≡ true → has l r ≡ true)
  unfolding lowest_lacking
  none_lacking_iff = (
    λ e r u m. there r m ((lowest_none_iff (rule_count rs) (lacking rs l b)).0 e r u) (sure (has l r)),
    λ f.
        (lowest_none_iff (rule_count rs) (lacking rs l b)).1
        (λ r u. fails (lacking rs l b r) (λ e. let t = (lacking_iff r).0 e in clash (f r u t.0) t.1)),
  )
    where
      there :
          (r : ℕ) → meets field_count (rule_box rs r) b ≡ true → lacking rs l b r ≡ false →
          (has l r ≡ true) ⊎ (has l r ≡ false) → has l r ≡ true
      there r m e (inl t) = t
      there r m e (inr t) = clash ((lacking_iff r).1 (m, t)) e
