-- Lists of rules, with actions of at most any number: the tests one by one, when a list is fine, and when it is refused
-- with 11.
use Prim.Native.Nat.{ℕ, ◌*◌, ◌%◌, ◌≤◌, ◌<◌}
use native.Mathlib.Omega.{arith}
use mathlib.Core.Bool.{true, false}
use mathlib.Core.Path.{◌≡◌, refl, sym, ◌∙◌}
use mathlib.Core.Logic.{◌⊎◌, inl, inr, ◌↔◌}
use mathlib.Core.List.{List}
use lib.ListN.{length}
use borrow.Author.Tests.{leb-true, le-leb, lt-leb, eqb-true, eq-eqb, ne_eqb}
use Rattle.refusals.specs.declared.Refusal.{Refusal}
use Rattle.refusals.specs.declared.Refusal.TheVariants.{RuleWordsWrong, RuleNotGood, RuleHasTwin}
use Rattle.refusals.specs.Verdict.{Verdict}
use Rattle.refusals.specs.Verdict.{Fine, Refused}
use Rattle.refusals.specs.Order.{in_turn}
use Rattle.refusals.specs.Table.{number_of}
use Rattle.refusals.proofs.Order.{holds_fine, fails_refused, fine_iff_holds}
use Rattle.refusals.proofs.Order.{then_fine, then_refused, then_fine_iff, then_cases}
use Rattle.refusals.proofs.Turns.{turns_fine_iff}
use Rattle.refusals.proofs.Only.{Only, only_said, unless_only, then_only, turns_only}
use Rattle.rules.specs.Words.{rule_words, most_rules, rule_count, largest_action}
use Rattle.rules.specs.Twins.{twins_verdict, Alike, NoTwins, FirstTwins}
use Rattle.rules.specs.Good.{good_to, rule_verdict, rules_verdict, list_verdict_to, list_verdict}
use Rattle.rules.proofs.TwinRules.{twins_fine_iff, twins_of_refused, twins_refused_iff}

module _ (most : ℕ) (rs : List ℕ) where
  -- words that are not whole rules are refused
  pub not_whole : (length rs % rule_words ≡ 0 → ⊥) → Refused RuleWordsWrong ≡ rules_verdict most rs
  unfolding rules_verdict
  not_whole e = sym (then_refused _ (fails_refused _ (ne_eqb (length rs % rule_words) 0 e)))

  -- too many words are refused
  pub too_many :
      length rs % rule_words ≡ 0 → most_rules * rule_words < length rs → Refused RuleWordsWrong ≡ rules_verdict most rs
  unfolding rules_verdict
  too_many e l =
      sym
      (then_fine _ (holds_fine _ (eq-eqb (length rs % rule_words) 0 e)) ∙
      then_refused _ (fails_refused _ (lt-leb (length rs) (most_rules * rule_words) l)))

  -- of whole rules, not too many, the rules decide in turn
  pub rules_decide :
      length rs % rule_words ≡ 0 → length rs ≤ most_rules * rule_words →
      rules_verdict most rs ≡ in_turn (rule_count rs) 0 (rule_verdict most rs)
  unfolding rules_verdict
  rules_decide e l =
      then_fine _ (holds_fine _ (eq-eqb (length rs % rule_words) 0 e)) ∙
      then_fine _ (holds_fine _ (le-leb (length rs) (most_rules * rule_words) l))

  -- a rule that is not good is refused
  pub rule_refused : (r : ℕ) → good_to most rs r ≡ false → rule_verdict most rs r ≡ Refused (RuleNotGood r)
  unfolding rule_verdict
  rule_refused r e = fails_refused _ e

  -- a good rule is fine
  pub rule_fine : (r : ℕ) → good_to most rs r ≡ true → rule_verdict most rs r ≡ Fine
  unfolding rule_verdict
  rule_fine r e = holds_fine _ e

  -- good rules: the words are whole rules, not too many, each of them good
  pub record GoodRules : Type 0 where
    pub whole : length rs % rule_words ≡ 0
    pub few : length rs ≤ most_rules * rule_words
    pub each : (r : ℕ) → r < rule_count rs → good_to most rs r ≡ true

  -- nothing before twins refuses a list exactly where its rules are good
  pub rules_fine_iff : (rules_verdict most rs ≡ Fine) ↔ GoodRules
  unfolding rules_verdict rule_verdict
  rules_fine_iff = (to, of)
    where
      to : rules_verdict most rs ≡ Fine → GoodRules
      to e =
          let t = (then_fine_iff _ _).0 e in
          let u = (then_fine_iff _ _).0 t.1 in
          record {
            whole = eqb-true (length rs % rule_words) 0 ((fine_iff_holds _ _).0 t.0);
            few = leb-true (length rs) (most_rules * rule_words) ((fine_iff_holds _ _).0 u.0);
            each = λ r l. (fine_iff_holds _ _).0 ((turns_fine_iff _ _).0 u.1 r l);
          }

      of : GoodRules → rules_verdict most rs ≡ Fine
      of g = rules_decide g.whole g.few ∙ (turns_fine_iff _ _).1 (λ r l. rule_fine r (g.each r l))

  -- what refuses a list before twins do is its refusal
  pub rules_refuse : {why : Refusal} → rules_verdict most rs ≡ Refused why → list_verdict_to most rs ≡ Refused why
  unfolding list_verdict_to
  rules_refuse e = then_refused _ e

  -- where nothing does, twins decide
  pub twins_decide : rules_verdict most rs ≡ Fine → list_verdict_to most rs ≡ twins_verdict rs
  unfolding list_verdict_to
  twins_decide e = then_fine _ e

  -- a list is fine exactly where nothing before twins refuses it and it has none
  pub fine_iff_apart : (list_verdict_to most rs ≡ Fine) ↔ ((rules_verdict most rs ≡ Fine) × NoTwins rs)
  unfolding list_verdict_to
  fine_iff_apart = (
    λ e. let t = (then_fine_iff _ _).0 e in (t.0, (twins_fine_iff rs).0 t.1),
    λ g. (then_fine_iff _ _).1 (g.0, (twins_fine_iff rs).1 g.1),
  )

  -- so it is exactly where its rules are good and it has no twins
  pub fine_iff_good : (list_verdict_to most rs ≡ Fine) ↔ (GoodRules × NoTwins rs)
  fine_iff_good = (
    λ e. let t = fine_iff_apart.0 e in (rules_fine_iff.0 t.0, t.1),
    λ g. fine_iff_apart.1 (rules_fine_iff.1 g.0, g.1),
  )

  -- ---- 11

  -- what refuses before twins do is 1 or 2
  pub rules_only : Only (λ why. number_of why ≤ 2) (rules_verdict most rs)
  unfolding rules_verdict rule_verdict
  rules_only =
      then_only (unless_only _ RuleWordsWrong (omega arith))
      (then_only (unless_only _ RuleWordsWrong (omega arith))
      (turns_only _ _ _ (λ r. unless_only _ (RuleNotGood r) (omega arith))))

  -- a list is refused with 11, place r and extra q, exactly where nothing before refuses it and those are its first
  -- twins
  pub eleven_at_iff :
      (r q : ℕ) →
      (list_verdict_to most rs ≡ Refused (RuleHasTwin r q)) ↔ ((rules_verdict most rs ≡ Fine) × FirstTwins rs r q)
  unfolding list_verdict_to
  eleven_at_iff r q =
      (λ e. to (then_cases _ _ e), λ g. twins_decide g.0 ∙ (twins_refused_iff rs r q).1 g.1)
    where
      to :
          (rules_verdict most rs ≡ Refused (RuleHasTwin r q)) ⊎
          ((rules_verdict most rs ≡ Fine) × (twins_verdict rs ≡ Refused (RuleHasTwin r q))) →
          (rules_verdict most rs ≡ Fine) × FirstTwins rs r q
      to (inl e) = absurd (omega (arith, only_said rules_only e))
      to (inr e) = (e.0, (twins_refused_iff rs r q).0 e.1)

  -- it is refused with 11 exactly where nothing before refuses it and two of its rules have equal words
  pub eleven_iff :
      ((r : ℕ) × (q : ℕ) × (list_verdict_to most rs ≡ Refused (RuleHasTwin r q))) ↔
      ((rules_verdict most rs ≡ Fine) × ((r : ℕ) × (q : ℕ) × Alike rs q r))
  unfolding list_verdict_to
  eleven_iff = (
    λ s. let t = (eleven_at_iff s.0 s.1).0 s.2 in (t.0, (s.0, s.1, t.1.twins)),
    λ g. of (twins_verdict rs) refl g.0 g.1.0 g.1.1 g.1.2,
  )
    where
      of :
          (v : Verdict) → twins_verdict rs ≡ v → rules_verdict most rs ≡ Fine → (r q : ℕ) → Alike rs q r →
          (r : ℕ) × (q : ℕ) × (list_verdict_to most rs ≡ Refused (RuleHasTwin r q))
      of Fine t g r q w = absurd ((twins_fine_iff rs).0 t q r w)
      of (Refused why) t g r q w =
          let f = twins_of_refused rs t in (f.0, f.1, (eleven_at_iff f.0 f.1).1 (g, f.3))

-- the rules of a list that is fine are good
pub good_of_fine : (rs : List ℕ) → list_verdict rs ≡ Fine → GoodRules largest_action rs
good_of_fine rs e = ((fine_iff_good largest_action rs).0 e).0
