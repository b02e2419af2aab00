-- The verdict on twins: what it is of one rule, and what it says of a list.
use Prim.Native.Nat.{ℕ, ◌≤◌, ◌<◌}
use native.Mathlib.Omega.{arith}
use mathlib.Core.Bool.{true, false}
use mathlib.Core.Path.{◌≡◌, refl, sym, ap, ◌∙◌}
use mathlib.Core.Logic.{◌↔◌}
use mathlib.Core.List.{List}
use borrow.Author.Tests.{leb-true, le-leb, lt-leb}
use Rattle.facts.proofs.Bools.{clash, fails}
use Rattle.facts.proofs.Cases.{Order, below, same, above, order}
use Rattle.refusals.specs.declared.Refusal.{Refusal}
use Rattle.refusals.specs.declared.Refusal.TheVariants.{RuleHasTwin}
use Rattle.refusals.specs.Verdict.{Fine, Refused}
use Rattle.refusals.proofs.Order.{refused_not_fine, holds_fine, fails_refused, fine_iff_holds}
use Rattle.refusals.proofs.Turns.{turns_fine_iff, LowestRefusal, lowest_of_turns, turns_of_lowest}
use Rattle.rules.specs.Words.{rule_count}
use Rattle.rules.specs.Twins.{same_words, earlier_twin, twin_verdict, twins_verdict, Alike, NoTwins, FirstTwins}
use Rattle.rules.proofs.EqualWords.{same_of_same, twin_found, twin_alike, twin_at_most, no_twin_iff}

module _ (rs : List ℕ) where
  -- a rule without a twin before it is fine
  pub twin_fine : (r : ℕ) → earlier_twin rs r ≡ r → twin_verdict rs r ≡ Fine
  unfolding twin_verdict
  twin_fine r e = holds_fine _ (le-leb r (earlier_twin rs r) (omega arith))

  -- a rule with one is refused
  pub twin_refused : (q r : ℕ) → earlier_twin rs r ≡ q → q < r → twin_verdict rs r ≡ Refused (RuleHasTwin r q)
  unfolding twin_verdict
  twin_refused q r e l =
      fails_refused _ (lt-leb r (earlier_twin rs r) (omega arith)) ∙ ap (λ (k : ℕ). Refused (RuleHasTwin r k)) e

  -- a rule is fine exactly where no rule before it has its words
  pub twin_fine_iff : (r : ℕ) → (twin_verdict rs r ≡ Fine) ↔ ((q : ℕ) → q < r → same_words rs q r ≡ false)
  unfolding twin_verdict
  twin_fine_iff r = (
    λ e. (no_twin_iff rs r).0 (own (leb-true r (earlier_twin rs r) ((fine_iff_holds _ _).0 e))),
    λ h. twin_fine r ((no_twin_iff rs r).1 h),
  )
    where
      own : r ≤ earlier_twin rs r → earlier_twin rs r ≡ r
      own l = omega (arith, twin_at_most rs r)

  -- the verdict is fine exactly where there are no twins
  pub twins_fine_iff : (twins_verdict rs ≡ Fine) ↔ NoTwins rs
  unfolding twins_verdict
  twins_fine_iff = (
    λ e q r w. clash w.alike ((twin_fine_iff r).0 ((turns_fine_iff _ _).0 e r w.rule) q w.earlier),
    λ h.
        (turns_fine_iff _ _).1
        (λ r u.
        (twin_fine_iff r).1
        (λ q l. fails (same_words rs q r) (λ t. h q r (record { rule = u; earlier = l; alike = t })))),
  )

  -- the lowest rule that is refused, and its earlier twin, are the first twins
  first_of_lowest :
      {why : Refusal} (w : LowestRefusal (rule_count rs) 0 (twin_verdict rs) why) (q : ℕ) → earlier_twin rs w.at ≡ q →
      q < w.at → FirstTwins rs w.at q
  first_of_lowest w q t l =
      record {
        twins = record { rule = omega (arith, w.below); earlier = l; alike = alike };
        only = λ p v. one p v (order p q);
        none_before = λ p r u v. clash v.alike (none r u p v.earlier);
      }
    where
      alike : same_words rs q w.at ≡ true
      alike = twin_alike rs q w.at t l

      none : (r : ℕ) → r < w.at → (p : ℕ) → p < r → same_words rs p r ≡ false
      none r u = (twin_fine_iff r).0 (w.fine_before r (omega arith) u)

      one : (p : ℕ) → Alike rs p w.at → Order p q → p ≡ q
      one p v (same e) = e
      one p v (below u) = clash (same_of_same rs p q w.at v.alike alike) (none q l p u)
      one p v (above u) = clash (same_of_same rs q p w.at alike v.alike) (none p v.earlier q u)

  -- what the verdict refuses is the first twins
  pub twins_of_refused :
      {why : Refusal} → twins_verdict rs ≡ Refused why →
      (r : ℕ) × (q : ℕ) × (why ≡ RuleHasTwin r q) × FirstTwins rs r q
  unfolding twins_verdict
  twins_of_refused {why} e = go (lowest_of_turns (rule_count rs) 0 (twin_verdict rs) e)
    where
      go :
          LowestRefusal (rule_count rs) 0 (twin_verdict rs) why →
          (r : ℕ) × (q : ℕ) × (why ≡ RuleHasTwin r q) × FirstTwins rs r q
      go w = at (earlier_twin rs w.at) refl (order (earlier_twin rs w.at) w.at)
        where
          at :
              (q : ℕ) → earlier_twin rs w.at ≡ q → Order q w.at →
              (r : ℕ) × (q : ℕ) × (why ≡ RuleHasTwin r q) × FirstTwins rs r q
          at q t (below l) =
              let said : Refused why ≡ Refused (RuleHasTwin w.at q) =
              sym w.refuses ∙ twin_refused q w.at t l in
              (w.at, q, cc, first_of_lowest w q t l)
          at q t (same l) = refused_not_fine (sym w.refuses ∙ twin_fine w.at (t ∙ l))
          at q t (above l) = absurd (omega (arith, twin_at_most rs w.at))

  -- it is refused with 11, place r and extra q, exactly where those are the first twins
  pub twins_refused_iff : (r q : ℕ) → (twins_verdict rs ≡ Refused (RuleHasTwin r q)) ↔ FirstTwins rs r q
  unfolding twins_verdict
  twins_refused_iff r q = (λ e. let t = twins_of_refused e in to t.0 t.1 t.2 t.3, of)
    where
      to : (x y : ℕ) → RuleHasTwin r q ≡ RuleHasTwin x y → FirstTwins rs x y → FirstTwins rs r q
      to x y e w = let a : x ≡ r = cc in let b : y ≡ q = cc in rw (← a, ← b) w

      apart : FirstTwins rs r q → (p : ℕ) → p < q → same_words rs p r ≡ false
      apart w p l =
          fails (same_words rs p r)
          (λ t.
          let before : p < r = omega (arith, w.twins.earlier) in
          let e = w.only p (record { rule = w.twins.rule; earlier = before; alike = t }) in
          absurd (omega arith))

      of : FirstTwins rs r q → twins_verdict rs ≡ Refused (RuleHasTwin r q)
      of w =
          turns_of_lowest (rule_count rs) 0 (twin_verdict rs)
          (record {
            at = r;
            from = omega arith;
            below = omega (arith, w.twins.rule);
            refuses =
                let first = twin_found rs q r w.twins.earlier w.twins.alike (apart w) in
                twin_refused q r first w.twins.earlier;
            fine_before = λ k l u.
                (twin_fine_iff k).1
                (λ p m.
                fails (same_words rs p k)
                (λ t.
                w.none_before p k u
                (record { rule = omega (arith, w.twins.rule); earlier = m; alike = t })));
          })
