-- The laws of the one shape of a promise: how an answer meets it, what an answer that meets it tells, that there is one
-- such answer, and that a call writes only the words that it counts.
use Prim.Native.Nat.{ℕ}
use mathlib.Core.Path.{◌≡◌, refl, sym, ap, ◌∙◌}
use mathlib.Core.List.{List}
use lib.ListN.{length, drop}
use Rattle.facts.specs.Lists.{written}
use Rattle.facts.proofs.Setting.{written_behind}
use Rattle.refusals.specs.declared.Refusal.{Refusal}
use Rattle.refusals.specs.Verdict.{Verdict}
use Rattle.refusals.specs.Verdict.{Fine, Refused}
use Rattle.refusals.specs.Paper.{Paper, refusal, success, on_paper}
use Rattle.refusals.specs.Order.{◌then◌, ◌giving◌, leaving}
use Rattle.refusals.specs.Promises.{Says, Writes, Apart, WritesOnly}
use Rattle.refusals.proofs.Order.{then_fine}
use Rattle.refusals.proofs.Order.{giving_refused, giving_fine, leaving_refused, leaving_fine}
use Rattle.refusals.proofs.Unique.{refusal_not_success}
use Rattle.refusals.proofs.Giving.{success_giving, refusal_giving}

-- ---- calls that write nothing

module _ {R : Type 0} {paper : R → Paper} {v : Verdict} {values : List ℕ} {r : R} where
  -- a refusal of the verdict is the answer
  pub says_refused : {why : Refusal} → v ≡ Refused why → paper r ≡ on_paper why → Says paper v values r
  says_refused e q = record { answers = q ∙ sym (giving_refused values e) }

  -- where the verdict is fine the values are the answer
  pub says_fine : v ≡ Fine → paper r ≡ success values → Says paper v values r
  says_fine e q = record { answers = q ∙ sym (giving_fine values e) }

  -- an answer that is a refusal comes of the verdict that refuses so
  pub refused_by : Says paper v values r → {why : Refusal} → paper r ≡ on_paper why → v ≡ Refused why
  refused_by s q = refusal_giving v values (sym q ∙ s.answers)

  -- an answer that is a success comes of a verdict that is fine, and has its values
  pub fine_by : Says paper v values r → {us : List ℕ} → paper r ≡ success us → (v ≡ Fine) × (us ≡ values)
  fine_by s q = success_giving v values (sym q ∙ s.answers)

  -- there is one answer
  pub says_unique : Apart paper → {s : R} → Says paper v values r → Says paper v values s → r ≡ s
  says_unique apart p q = apart _ _ (p.answers ∙ sym q.answers)

  -- a check before, that is fine, changes nothing
  pub says_after : {u : Verdict} → u ≡ Fine → Says paper v values r → Says paper (u then v) values r
  says_after e s = record { answers = s.answers ∙ ap (λ (x : Verdict). x giving values) (sym (then_fine v e)) }

-- ---- calls that are lent words

module _
    {R : Type 0} {paper : R → Paper} {v : Verdict} {values new found : List ℕ} {r : R} {after : List ℕ} where
  -- the answer of a call that writes is that of one that does not
  pub said_by : Writes paper v values new found r after → Says paper v values r
  said_by w = record { answers = w.answers }

  -- where the verdict is fine the values are the answer, and the new words stand in front
  pub writes_fine :
      v ≡ Fine → paper r ≡ success values → after ≡ written new found → Writes paper v values new found r after
  writes_fine e q left =
      record {
        answers = q ∙ sym (giving_fine values e);
        leaves = left ∙ sym (leaving_fine (written new found) found e);
      }

  -- a refusal of the verdict is the answer, and the words are as found
  pub writes_refused :
      {why : Refusal} → v ≡ Refused why → paper r ≡ on_paper why → after ≡ found →
      Writes paper v values new found r after
  writes_refused e q left =
      record {
        answers = q ∙ sym (giving_refused values e);
        leaves = left ∙ sym (leaving_refused (written new found) found e);
      }

  -- a call that refused leaves the words as found
  pub left_found : Writes paper v values new found r after → {why : Refusal} → v ≡ Refused why → after ≡ found
  left_found w e = w.leaves ∙ leaving_refused (written new found) found e

  -- a call that did not leaves the new words in front
  pub left_written : Writes paper v values new found r after → v ≡ Fine → after ≡ written new found
  left_written w e = w.leaves ∙ leaving_fine (written new found) found e

  -- there is one answer, and one state of the lent words
  pub writes_unique :
      Apart paper → {s : R} {other : List ℕ} → Writes paper v values new found r after →
      Writes paper v values new found s other → (r ≡ s) × (after ≡ other)
  writes_unique apart p q = (apart _ _ (p.answers ∙ sym q.answers), p.leaves ∙ sym q.leaves)

  -- a check before, that is fine, changes nothing
  pub writes_after :
      {u : Verdict} → u ≡ Fine → Writes paper v values new found r after →
      Writes paper (u then v) values new found r after
  writes_after e w =
      record {
        answers = w.answers ∙ ap (λ (x : Verdict). x giving values) (sym (then_fine v e));
        leaves = w.leaves ∙ ap (λ (x : Verdict). leaving x (written new found) found) (sym (then_fine v e));
      }

-- a call that is lent two outputs has one answer, and one state of both
pub both_unique :
    {R : Type 0} {paper : R → Paper} {v : Verdict} {values new found more held : List ℕ} {r s : R} {x y a b : List ℕ} →
    Apart paper → Writes paper v values new found r x × Writes paper v values more held r y →
    Writes paper v values new found s a × Writes paper v values more held s b →
    (r ≡ s) × (x ≡ a) × (y ≡ b)
both_unique apart p q =
    let one = writes_unique apart p.0 q.0 in (one.0, one.1, (writes_unique apart p.1 q.1).1)

-- ---- what is written

-- what is left goes by what is said
found_refused :
    (v : Verdict) (values new found : List ℕ) {n p e : ℕ} → refusal n p e ≡ (v giving values) →
    leaving v new found ≡ found
unfolding ◌giving◌ leaving
found_refused Fine values new found e = refusal_not_success e
found_refused (Refused why) values new found e = refl

past_new :
    (v : Verdict) (values new found vs : List ℕ) (size : List ℕ → ℕ) → success vs ≡ (v giving values) →
    (v ≡ Fine → length new ≡ size values) → drop (size vs) (leaving v (written new found) found) ≡ drop (size vs) found
unfolding ◌giving◌ leaving
past_new Fine values new found vs size e counts =
    let q : vs ≡ values = cc in rw q (written_behind new found (size values) (counts refl))
past_new (Refused why) values new found vs size e counts = refusal_not_success (sym e)

module _
    {R : Type 0} {paper : R → Paper} {v : Verdict} {values new found : List ℕ} {r : R} {after : List ℕ}
    (w : Writes paper v values new found r after) where
  -- a call that says a refusal leaves every lent word as found
  pub refused_as_found : {n p e : ℕ} → paper r ≡ refusal n p e → after ≡ found
  refused_as_found s = w.leaves ∙ found_refused v values (written new found) found (sym s ∙ w.answers)

  -- a call whose values count the new words leaves every word past those as found
  pub rest_as_found :
      {vs : List ℕ} (size : List ℕ → ℕ) → (v ≡ Fine → length new ≡ size values) → paper r ≡ success vs →
      drop (size vs) after ≡ drop (size vs) found
  rest_as_found {vs} size counts s =
      ap (drop (size vs)) w.leaves ∙ past_new v values new found vs size (sym s ∙ w.answers) counts

-- all of it of a call whose promise is of this shape: two states are one, and only the words that are counted change
pub writes_only :
    {R : Type 0} {paper : R → Paper} {v : Verdict} {values new w : List ℕ} {P : R → List ℕ → Type 0}
    {size : List ℕ → ℕ} → Apart paper → ((r : R) (after : List ℕ) → P r after → Writes paper v values new w r after) →
    (v ≡ Fine → length new ≡ size values) → WritesOnly w P paper size
writes_only {size = size} apart does counts =
    record {
      one = λ r s x y p q. writes_unique apart (does r x p) (does s y q);
      refused = λ r after n p e q s. refused_as_found (does r after q) s;
      rest = λ r after vs q s. rest_as_found (does r after q) size counts s;
    }
