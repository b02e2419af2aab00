-- Equal words: when two rules have them, and which rule is a rule's earlier twin.
use Prim.Native.Nat.{ℕ, ◌≤◌, ◌<◌}
use mathlib.Core.Bool.{true, false}
use mathlib.Core.Path.{◌≡◌, sym, ◌∙◌}
use mathlib.Core.Logic.{◌↔◌}
use mathlib.Core.List.{List}
use borrow.Author.Tests.{eqb-true, eq-eqb}
use Rattle.facts.proofs.Below.{all_below_at, all_below_of}
use Rattle.facts.proofs.Lowest.{lowest_at_most, lowest_passes, lowest_unique, lowest_none_iff}
use Rattle.rules.specs.Words.{match_words, word_of}
use Rattle.rules.specs.Twins.{same_words, earlier_twin}

module _ (rs : List ℕ) where
  -- ---- equal words

  -- two rules have equal words exactly where they have the same word at each place but the action's
  pub same_iff :
      (q r : ℕ) → (same_words rs q r ≡ true) ↔ ((j : ℕ) → j < match_words → word_of rs q j ≡ word_of rs r j)
  unfolding same_words
  same_iff q r = (
    λ e j l. eqb-true _ _ (all_below_at match_words _ e j l),
    λ h. all_below_of match_words _ (λ j l. eq-eqb _ _ (h j l)),
  )

  -- two rules with the words of a third have equal words
  pub same_of_same : (p q r : ℕ) → same_words rs p r ≡ true → same_words rs q r ≡ true → same_words rs p q ≡ true
  same_of_same p q r s t = (same_iff p q).1 (λ j l. (same_iff p r).0 s j l ∙ sym ((same_iff q r).0 t j l))

  -- ---- the earlier twin

  -- a rule before r with r's words, which no other rule before it has, is r's earlier twin
  pub twin_found :
      (q r : ℕ) → q < r → same_words rs q r ≡ true → ((p : ℕ) → p < q → same_words rs p r ≡ false) → earlier_twin rs r ≡ q
  unfolding earlier_twin
  twin_found q r l s none = lowest_unique r _ q l s none

  -- an earlier twin has r's words
  pub twin_alike : (q r : ℕ) → earlier_twin rs r ≡ q → q < r → same_words rs q r ≡ true
  unfolding earlier_twin
  twin_alike q r e l = (lowest_passes r _ q e l).0

  -- no rule past r is its twin
  pub twin_at_most : (r : ℕ) → earlier_twin rs r ≤ r
  unfolding earlier_twin
  twin_at_most r = lowest_at_most r _

  -- r is its own exactly where no rule before it has its words
  pub no_twin_iff : (r : ℕ) → (earlier_twin rs r ≡ r) ↔ ((q : ℕ) → q < r → same_words rs q r ≡ false)
  unfolding earlier_twin
  no_twin_iff r = lowest_none_iff r _
