-- The call that says why a rule missed: of a good list and a legal header it says the lowest field that disagrees
-- exactly where there is such a rule, and else that there is none.
use Rattle.std.specs.Prelude.{Err, Ok}
use Prim.Native.Nat.{ℕ, ◌<◌}
use mathlib.Core.Bool.{true, false}
use mathlib.Core.Path.{◌≡◌, refl, sym, ap, ◌∙◌}
use mathlib.Core.Logic.{◌↔◌}
use mathlib.Core.List.{List, [], ◌∷◌}
use borrow.Author.Tests.{ltb-true, lt-ltb}
use Rattle.facts.specs.Lists.{has}
use Rattle.facts.proofs.Bools.{fails}
use Rattle.refusals.specs.declared.Refusal.TheVariants.{RuleNotGood}
use Rattle.refusals.specs.Verdict.{Fine}
use Rattle.refusals.specs.Paper.{success}
use Rattle.refusals.proofs.Order.{refused_not_fine, fails_refused, fine_iff_holds, then_fine}
use Rattle.refusals.proofs.Promises.{says_refused, says_fine, refused_by, fine_by}
use Rattle.fields.specs.Words.{field_count}
use Rattle.fields.specs.Headers.{Legal}
use Rattle.rules.specs.Words.{rule_count, rule_there}
use Rattle.rules.specs.Good.{list_verdict}
use Rattle.rules.specs.Matching.{agrees, first_miss, matches, matching}
use Rattle.rules.specs.RuleMisses.{there_verdict, miss_verdict, RuleCompared}
use Rattle.rules.proofs.Listing.{listed_iff_matches}
use Rattle.rules.proofs.Misses.{miss_iff, matches_iff_no_miss}

-- there is a rule of this number exactly where that is not refused
there_iff : (rs : List ℕ) (n : ℕ) → (there_verdict rs n ≡ Fine) ↔ (n < rule_count rs)
unfolding there_verdict
there_iff rs n = (
  λ e. ltb-true _ _ ((fine_iff_holds (rule_there rs n) _).0 e),
  λ l. (fine_iff_holds (rule_there rs n) _).1 (lt-ltb _ _ l),
)

module _ (rs h : List ℕ) (n : ℕ) where
  -- whether there is such a rule is all that is left to judge
  there_decides : list_verdict rs ≡ Fine → Legal h → miss_verdict rs h n ≡ there_verdict rs n
  unfolding miss_verdict
  there_decides fine legal = then_fine _ fine ∙ then_fine _ legal

  -- a field is said exactly where there is such a rule and that is its lowest field that disagrees
  pub compared_iff :
      (f : ℕ) → list_verdict rs ≡ Fine → Legal h →
      RuleCompared rs h n (Ok f) ↔ ((n < rule_count rs) × (first_miss rs h n ≡ f))
  compared_iff f fine legal = (
    λ p.
        let t = fine_by p refl in
        let e : f ∷ [] ≡ first_miss rs h n ∷ [] = t.1 in
        let same : first_miss rs h n ≡ f = cc in
        ((there_iff rs n).0 (sym (there_decides fine legal) ∙ t.0), same),
    λ t.
        says_fine (there_decides fine legal ∙ (there_iff rs n).1 t.0)
        (ap (λ g. success (g ∷ [])) (sym t.1)),
  )

  -- that there is none is said exactly where there is none
  pub no_rule_iff :
      list_verdict rs ≡ Fine → Legal h →
      RuleCompared rs h n (Err (RuleNotGood n)) ↔ (n < rule_count rs → ⊥)
  unfolding there_verdict
  no_rule_iff fine legal = (
    λ p l.
        let said = refused_by p {why = RuleNotGood n} refl in
        refused_not_fine (sym said ∙ there_decides fine legal ∙ (there_iff rs n).1 l),
    λ d.
        says_refused
        (there_decides fine legal ∙ fails_refused _ (fails (rule_there rs n) (λ t. d (ltb-true _ _ t))))
        refl,
  )

  -- 5 is said exactly where there is such a rule and it matches
  pub five_iff :
      list_verdict rs ≡ Fine → Legal h →
      RuleCompared rs h n (Ok field_count) ↔ ((n < rule_count rs) × (matches rs h n ≡ true))
  five_iff fine legal = (
    λ p. let t = (compared_iff field_count fine legal).0 p in (t.0, (matches_iff_no_miss rs h n).1 t.1),
    λ t. (compared_iff field_count fine legal).1 (t.0, (matches_iff_no_miss rs h n).0 t.1),
  )

  -- so exactly where its number is listed
  pub five_iff_listed :
      list_verdict rs ≡ Fine → Legal h → RuleCompared rs h n (Ok field_count) ↔ (has (matching rs h) n ≡ true)
  five_iff_listed fine legal = (
    λ p. (listed_iff_matches rs h n).1 ((five_iff fine legal).0 p),
    λ e. (five_iff fine legal).1 ((listed_iff_matches rs h n).0 e),
  )

  -- a lower number is said exactly where there is such a rule, that field disagrees, and all lower ones agree
  pub lower_iff :
      list_verdict rs ≡ Fine → Legal h → (f : ℕ) → f < field_count →
      RuleCompared rs h n (Ok f) ↔
      ((n < rule_count rs) × (agrees rs h n f ≡ false) × ((g : ℕ) → g < f → agrees rs h n g ≡ true))
  lower_iff fine legal f l = (
    λ p.
        let t = (compared_iff f fine legal).0 p in
        let m = (miss_iff rs h n f l).0 t.1 in
        (t.0, m.0, m.1),
    λ t. (compared_iff f fine legal).1 (t.0, (miss_iff rs h n f l).1 (t.1, t.2)),
  )
