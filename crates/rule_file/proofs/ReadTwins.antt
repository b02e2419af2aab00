-- What twins do to a reading: a text reads as its lines do where their words have none, and is refused with 11 where
-- they have.
use Prim.Native.Nat.{ℕ, ◌≤◌}
use native.Mathlib.Omega.{arith}
use mathlib.Core.List.{List}
use mathlib.Core.Logic.{◌↔◌}
use mathlib.Core.Path.{◌≡◌, refl, sym, ap, ◌∙◌}
use Rattle.refusals.specs.declared.Refusal.{Refusal}
use Rattle.refusals.specs.declared.Refusal.TheVariants.{RuleHasTwin}
use Rattle.refusals.specs.Verdict.{Verdict}
use Rattle.refusals.specs.Verdict.{Fine, Refused}
use Rattle.refusals.specs.Table.{number_of}
use Rattle.text.specs.Text.{Reading, good, refused, split}
use Rattle.text.proofs.Runs.{refused_good}
use Rattle.text.proofs.Refusing.{text_low}
use Rattle.rules.specs.Twins.{twins_verdict, FirstTwins}
use Rattle.rules.proofs.TwinRules.{twins_refused_iff}
use Rattle.rule_file.specs.ListText.{start, step, finish, list_in}
use Rattle.rule_file.specs.Kinds.{kind_of}
use Rattle.rule_file.specs.RuleText.{format_of, lines_in, on_twins, without_twins, rules_in}

module _ (s ws : List ℕ) (e : lines_in s ≡ good ws) where
  -- where the words of the lines have no twins, the text reads as the lines do
  pub reads_of_lines : twins_verdict ws ≡ Fine → rules_in s ≡ good ws
  unfolding rules_in
  reads_of_lines t = rw (e, t)

  -- where they have, it is refused for that
  pub twins_of_lines : {why : Refusal} → twins_verdict ws ≡ Refused why → rules_in s ≡ refused why
  unfolding rules_in
  twins_of_lines t = rw (e, t)

-- a text whose lines are refused is refused so
pub refused_of_lines : (s : List ℕ) {why : Refusal} → lines_in s ≡ refused why → rules_in s ≡ refused why
unfolding rules_in
refused_of_lines s e = rw e

-- the lines of a text that reads well read so, and its words have no twins
pub lines_of_read : (s ws : List ℕ) → rules_in s ≡ good ws → (lines_in s ≡ good ws) × (twins_verdict ws ≡ Fine)
unfolding rules_in
lines_of_read s ws e = go (lines_in s) refl e
  where
    on :
        (us : List ℕ) (v : Verdict) → twins_verdict us ≡ v → on_twins us v ≡ good ws →
        (us ≡ ws) × (twins_verdict us ≡ Fine)
    on us Fine t e = (cc, t)
    on us (Refused why) t e = refused_good e

    go :
        (a : Reading (List ℕ)) → lines_in s ≡ a → without_twins a ≡ good ws →
        (lines_in s ≡ good ws) × (twins_verdict ws ≡ Fine)
    go (good us) q e = let t = on us (twins_verdict us) refl e in rw (← t.0) (q, t.1)
    go (refused why) q e = refused_good e

-- lines are refused with 9 or 10
lines_low : (s : List ℕ) {why : Refusal} → lines_in s ≡ refused why → number_of why ≤ 10
unfolding list_in
lines_low s e = text_low (step (format_of (kind_of s))) finish start 0 (split s) e

-- a text is refused with 11, place r and extra q, exactly where its lines read well and those are the first twins of
-- their words
pub read_eleven_iff :
    (s : List ℕ) (r q : ℕ) →
    (rules_in s ≡ refused (RuleHasTwin r q)) ↔ ((ws : List ℕ) × (lines_in s ≡ good ws) × FirstTwins ws r q)
unfolding rules_in
read_eleven_iff s r q = (
  λ e. to (lines_in s) refl e,
  λ w. twins_of_lines s w.0 w.1 ((twins_refused_iff w.0 r q).1 w.2),
)
  where
    on :
        (ws : List ℕ) (v : Verdict) → twins_verdict ws ≡ v → on_twins ws v ≡ refused (RuleHasTwin r q) →
        FirstTwins ws r q
    on ws Fine t e = refused_good (sym e)
    on ws (Refused why) t e =
        let same : why ≡ RuleHasTwin r q = cc in (twins_refused_iff ws r q).0 (t ∙ ap Refused same)

    to :
        (a : Reading (List ℕ)) → lines_in s ≡ a → without_twins a ≡ refused (RuleHasTwin r q) →
        (ws : List ℕ) × (lines_in s ≡ good ws) × FirstTwins ws r q
    to (good ws) l e = (ws, l, on ws (twins_verdict ws) refl e)
    to (refused why) l e =
        let same : why ≡ RuleHasTwin r q = cc in absurd (omega (arith, lines_low s (l ∙ ap refused same)))
