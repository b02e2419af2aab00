-- From the lines of a text to what the reader answers: their words are read into words of their own, then judged as a
-- list, and then stored if there is room.
use Rattle.std.specs.Prelude.{Err, Ok, Result}
use Rattle.rule_file.specs.declared.read.Rules.{Rules}
use Prim.Native.Nat.{ℕ, ◌*◌, ◌≤◌}
use native.Mathlib.Omega.{arith}
use mathlib.Core.List.{List}
use mathlib.Core.Path.{◌≡◌, refl, sym, ap, subst, ◌∙◌}
use lib.ListN.{length, take}
use Rattle.facts.proofs.Setting.{written_front}
use Rattle.refusals.specs.declared.Refusal.{Refusal}
use Rattle.refusals.specs.Verdict.{Verdict}
use Rattle.refusals.specs.Verdict as verdict
use Rattle.refusals.specs.Promises.{Apart}
use Rattle.refusals.proofs.Order.{then_fine, then_refused, giving_refused}
use Rattle.refusals.proofs.Unique.{on_paper_unique, refusal_not_success}
use Rattle.refusals.proofs.Promises.{writes_refused, left_found}
use Rattle.refusals.proofs.Rooms.{sets_written}
use Rattle.text.specs.Text.{Reading, good, refused}
use Rattle.rules.specs.Words.{rule_words, most_rules, largest_action}
use Rattle.rules.specs.Twins.{twins_verdict}
use Rattle.rules.specs.Good.{list_verdict}
use Rattle.rules.proofs.Lists.{rules_fine_iff, twins_decide}
use Rattle.rule_file.specs.declared.kind.Kind.{Kind}
use Rattle.rule_file.specs.Kinds.{kind_number, kind_of}
use Rattle.rule_file.specs.RuleText.{lines_in}
use Rattle.rule_file.specs.Reading.{paper, RulesRead, HoldsRules}
use Rattle.rule_file.specs.ReadSteps.{RulesStored, WordsTaken}
use Rattle.rule_file.proofs.ReadTwins.{reads_of_lines, twins_of_lines, refused_of_lines}
use Rattle.rule_file.proofs.RoundTrips.{lines_good}
use Rattle.rule_file.proofs.KindOf.{kinds_apart}
use Rattle.rule_file.proofs.KindFormats.{good_of_lines}

-- the paper tells the answers apart
pub read_apart : Apart paper
read_apart (Err a) (Err b) e = ap Err (on_paper_unique a b e)
read_apart (Err a) (Ok n) e = refusal_not_success e
read_apart (Ok m) (Err b) e = refusal_not_success (sym e)
read_apart (Ok m) (Ok n) e =
    let same : kind_number m.kind ≡ kind_number n.kind = cc in
    let count : m.rules ≡ n.rules = cc in
    ap (λ r. HoldsRules r m.kind) count ∙ ap (λ k. HoldsRules n.rules k) (kinds_apart m.kind n.kind same)

module _ (s : List ℕ) {before : List ℕ} where
  -- a text whose lines are refused is refused by the reader
  pub text_refused : {why : Refusal} → lines_in s ≡ refused why → RulesRead s before (Err why) before
  text_refused {why} e = writes_refused {why = why} (rw (refused_of_lines s e)) refl refl

  -- of the words of lines that read well, what comes of them is what the reader answers
  pub words_answer :
      (ws : List ℕ) {k : Kind} {r : Result Rules Refusal} {after : List ℕ} → lines_in s ≡ good ws → k ≡ kind_of s →
      WordsTaken k ws before r after → RulesRead s before r after
  words_answer ws {k} {r} {after} e same taken = go (twins_verdict ws) refl
    where
      w : WordsTaken (kind_of s) ws before r after
      w = subst (λ (j : Kind). WordsTaken j ws before r after) same taken

      list : list_verdict ws ≡ twins_verdict ws
      list =
          twins_decide largest_action ws
          ((rules_fine_iff largest_action ws).1 (good_of_lines (kind_of s) ws (lines_good (kind_of s) s ws e)))

      go : (v : Verdict) → twins_verdict ws ≡ v → RulesRead s before r after
      go verdict.Fine t = rw (reads_of_lines s ws e t) (rw (then_fine _ (list ∙ t)) at w)
      go (verdict.Refused why) t =
          let said = then_refused _ (list ∙ t) in
          rw (twins_of_lines s ws e t)
          (writes_refused {why = why} refl (w.answers ∙ giving_refused _ said) (left_found w said))

-- the words that lines were stored as, in words of their own with room for all
pub stored_front :
    {k j : Kind} {a : Reading (List ℕ)} {old new : List ℕ} {n : ℕ} (p : RulesStored k a old new n j) →
    length old ≡ most_rules * rule_words → take (n * rule_words) new ≡ p.words
stored_front {old = old} {n = n} p room =
    let fits : length p.words ≤ length old = omega (arith, p.size, p.few) in
    rw (p.rules_are ∙ sets_written p.words old fits) (written_front p.words old (n * rule_words) p.size)
