-- The lowest field of a rule that disagrees with a header: what it is, and that a rule matches exactly where every
-- field agrees.
use Prim.Native.Nat.{ℕ, ◌≤◌, ◌<◌}
use mathlib.Core.Bool.{true, false, not}
use mathlib.Core.Path.{◌≡◌, ap}
use mathlib.Core.Logic.{◌↔◌}
use mathlib.Core.List.{List}
use borrow.Author.Tests.{eqb-true, eq-eqb, not-true, not-false}
use Rattle.facts.proofs.Lowest.{lowest_at_most, lowest_passes, lowest_unique, lowest_none_iff}
use Rattle.fields.specs.Words.{field_count}
use Rattle.rules.specs.Matching.{agrees, first_miss, matches}

module _ (rs h : List ℕ) (r : ℕ) where
  -- it is a field, or the number of fields
  pub miss_at_most : first_miss rs h r ≤ field_count
  unfolding first_miss
  miss_at_most = lowest_at_most field_count _

  -- it is a field exactly where that field disagrees and all lower ones agree
  pub miss_iff :
      (f : ℕ) → f < field_count →
      (first_miss rs h r ≡ f) ↔ ((agrees rs h r f ≡ false) × ((g : ℕ) → g < f → agrees rs h r g ≡ true))
  unfolding first_miss
  miss_iff f l = (
    λ e.
        let t = lowest_passes field_count _ f e l in
        (not-true (agrees rs h r f) t.0, λ g u. not-false (agrees rs h r g) (t.1 g u)),
    λ t. lowest_unique field_count _ f l (ap not t.0) (λ g u. ap not (t.1 g u)),
  )

  -- it is the number of fields exactly where every field agrees
  pub no_miss_iff : (first_miss rs h r ≡ field_count) ↔ ((f : ℕ) → f < field_count → agrees rs h r f ≡ true)
  unfolding first_miss
  no_miss_iff = (
    λ e f l. not-false (agrees rs h r f) ((lowest_none_iff field_count _).0 e f l),
    λ a. (lowest_none_iff field_count _).1 (λ f l. ap not (a f l)),
  )

  -- and that is where the rule matches
  pub matches_iff_no_miss : (matches rs h r ≡ true) ↔ (first_miss rs h r ≡ field_count)
  unfolding matches
  matches_iff_no_miss = (λ e. eqb-true _ _ e, λ e. eq-eqb _ _ e)

  -- a rule matches exactly where every field agrees
  pub matches_iff_agree : (matches rs h r ≡ true) ↔ ((f : ℕ) → f < field_count → agrees rs h r f ≡ true)
  matches_iff_agree = (
    λ e. no_miss_iff.0 (matches_iff_no_miss.0 e),
    λ a. matches_iff_no_miss.1 (no_miss_iff.1 a),
  )
