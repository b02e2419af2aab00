-- Chaining the rules, for any slots: the steps of the loop that chains one rule after another.
use Prim.Native.Nat.{ℕ, ◌+◌, ◌≤◌, ◌<◌}
use native.Mathlib.Numerals.{add-one}
use native.Mathlib.Omega.{arith}
use mathlib.Core.Bool.{false}
use mathlib.Core.Path.{◌≡◌, refl, sym, ap, ◌∙◌}
use mathlib.Core.Logic.{◌⊎◌, inl, inr}
use mathlib.Core.List.{List}
use lib.ListN.{length, get_or, set, replicate, length-set, length-replicate, get_or-replicate}
use lib.Seq.{get_or-set_same, get_or-set_other}
use borrow.Author.Tests.{eq-eqb, ne_eqb}
use Rattle.facts.proofs.Cases.{Order, below, same, above, order, same_or_not}
use Rattle.refusals.specs.declared.Refusal.TheVariants.{RuleHasTwin}
use Rattle.refusals.specs.Verdict.{Fine, Refused}
use Rattle.refusals.proofs.Turns.{Head, head_first, head_step, head_stop, head_last}
use Rattle.rules.specs.Words.{most_rules, rule_count}
use Rattle.rules.specs.Twins.{same_words, earlier_twin, twin_verdict, twins_verdict}
use Rattle.rules.specs.Chains.{slots, latest_in, Chained, Latest, SlotsAhead}
use Rattle.rules.proofs.EqualWords.{no_twin_iff, twin_at_most}
use Rattle.rules.proofs.TwinRules.{twin_fine, twin_refused}

-- ---- where chains begin

module _ (slot : ℕ → ℕ) where
  -- where the loop begins every chain is empty
  pub latest_first : Latest slot (replicate slots 0) 0
  unfolding latest_in
  latest_first =
      record { room = length-replicate {A = ℕ} slots 0; begins = λ s l. get_or-replicate {A = ℕ} slots s 0 0 l }

  -- the latest rule before r + 1 in r's slot is r
  latest_own : (r : ℕ) → latest_in slot (r + 1) (slot r) ≡ r + 1
  unfolding latest_in
  latest_own r = rw (add-one r, latest_in, eq-eqb (slot r) (slot r) refl) (add-one r)

  -- in another slot it is as before
  latest_other : (r s : ℕ) → (slot r ≡ s → ⊥) → latest_in slot (r + 1) s ≡ latest_in slot r s
  unfolding latest_in
  latest_other r s d = rw (add-one r, latest_in, ne_eqb (slot r) s d)

  -- the next rule begins the chain of its slot
  pub latest_step :
      {r s : ℕ} {latest : List ℕ} → s ≡ slot r → s < slots → Latest slot latest r →
      Latest slot (set latest s (r + 1)) (r + 1)
  latest_step {r} {s} {latest} e b w =
      record {
        room = length-set latest s (r + 1) ∙ w.room;
        begins = λ t l. go t l (same_or_not s t);
      }
    where
      go : (t : ℕ) → t < slots → (s ≡ t) ⊎ (s ≡ t → ⊥) → get_or (set latest s (r + 1)) t 0 ≡ latest_in slot (r + 1) t
      go t l (inl q) =
          rw (← q)
          (get_or-set_same latest s (r + 1) 0 (omega (arith, w.room)) ∙ sym (latest_own r) ∙
          ap (latest_in slot (r + 1)) (sym e))
      go t l (inr q) =
          get_or-set_other latest s t (r + 1) 0 (λ p. q (sym p)) ∙ w.begins t l ∙
          sym (latest_other r t (λ p. q (e ∙ p)))

-- ---- the loop that chains the rules

module _ (rs : List ℕ) (slot : ℕ → ℕ) where
  -- where the loop begins no rule is chained
  pub chained_first : (before : List ℕ) → Chained rs slot before 0
  chained_first before =
      record { room = omega arith; links = λ q l. absurd (omega arith); apart = λ p q l u. absurd (omega arith) }

  -- a rule without a twin before it is chained to the latest of its slot
  pub chained_step :
      {r place : ℕ} {before : List ℕ} → Chained rs slot before r → r < length before → earlier_twin rs r ≡ r →
      place ≡ latest_in slot r (slot r) → Chained rs slot (set before r place) (r + 1)
  chained_step {r} {place} {before} w l none e =
      record {
        room = rw (length-set before r place) (omega arith);
        links = λ q u. link q u (order q r);
        apart = λ p q k u. other p q k u (order q r);
      }
    where
      link : (q : ℕ) → q < r + 1 → Order q r → get_or (set before r place) q 0 ≡ latest_in slot q (slot q)
      link q u (below k) = get_or-set_other before r q place 0 (λ p. omega arith) ∙ w.links q k
      link q u (same k) = rw k (get_or-set_same before r place 0 l ∙ e)
      link q u (above k) = absurd (omega arith)

      other : (p q : ℕ) → p < q → q < r + 1 → Order q r → same_words rs p q ≡ false
      other p q k u (below m) = w.apart p q k m
      other p q k u (same m) = rw m ((no_twin_iff rs r).0 none p (omega arith))
      other p q k u (above m) = absurd (omega arith)

  -- the place of a rule that is chained is stored over its slot, and the slots behind it stay
  ahead_step :
      {r : ℕ} {before : List ℕ} (place : ℕ) → SlotsAhead rs slot before r →
      SlotsAhead rs slot (set before r place) (r + 1)
  ahead_step {r} {before} place w =
      record {
        room = length-set before r place ∙ w.room;
        slots_are = λ q l u. get_or-set_other before r q place 0 (λ p. omega arith) ∙ w.slots_are q (omega arith) u;
      }

  -- the loop's invariant at rule r: the rules before it are chained, none of them has a twin before it, and the slots
  -- of the others stand behind
  pub record AllApart (latest before : List ℕ) (r : ℕ) : Type 0 where
    pub begins : Latest slot latest r
    pub chained : Chained rs slot before r
    pub ahead : SlotsAhead rs slot before r
    pub head : Head (rule_count rs) (twin_verdict rs) r

  -- where the loop begins no rule is chained
  pub apart_first : {before : List ℕ} → SlotsAhead rs slot before 0 → AllApart (replicate slots 0) before 0
  apart_first {before} w =
      record {
        begins = latest_first slot;
        chained = chained_first before;
        ahead = w;
        head = head_first _ _;
      }

  module _ {latest before : List ℕ} {r : ℕ} (w : AllApart latest before r) where
    -- the word of the next rule is its slot
    pub apart_slot : {s : ℕ} → s ≡ get_or before r 0 → r < rule_count rs → s ≡ slot r
    apart_slot e u = e ∙ w.ahead.slots_are r (omega arith) u

    -- the chain of r's slot begins at the latest rule of it
    pub apart_place : {s : ℕ} → s ≡ slot r → s < slots → get_or latest s 0 ≡ latest_in slot r (slot r)
    apart_place {s} e b = w.begins.begins s b ∙ ap (latest_in slot r) e

    -- a rule without a twin before it is chained
    pub apart_step :
        {s q : ℕ} → s ≡ slot r → s < slots → q ≡ earlier_twin rs r → r ≤ q → r < rule_count rs →
        rule_count rs ≤ most_rules → AllApart (set latest s (r + 1)) (set before r (get_or latest s 0)) (r + 1)
    apart_step {s} e b t l u few =
        let own : earlier_twin rs r ≡ r = omega (arith, twin_at_most rs r) in
        record {
          begins = latest_step slot e b w.begins;
          chained = chained_step w.chained (omega (arith, w.ahead.room)) own (apart_place e b);
          ahead = ahead_step (get_or latest s 0) w.ahead;
          head = head_step w.head u (twin_fine rs r own);
        }

    -- a rule with one is the refusal
    pub apart_stop :
        {q : ℕ} → q ≡ earlier_twin rs r → q < r → r < rule_count rs → Refused (RuleHasTwin r q) ≡ twins_verdict rs
    unfolding twins_verdict
    apart_stop {q} t l u = sym (head_stop w.head u (twin_refused rs q r (sym t) l))

    -- at the end there are no twins
    pub apart_last : rule_count rs ≤ r → Fine ≡ twins_verdict rs
    unfolding twins_verdict
    apart_last l = sym (head_last w.head l)
