-- The calls after one another, for each kind of file: what its writer wrote reads back as the same words and kind, what
-- the reader read is written back byte for byte, and a text that reads well is refused where it is cut.
use Rattle.rule_file.specs.declared.read.Rules.{Rules}
use Rattle.std.specs.Prelude.{Ok, Result, Err}
use Rattle.refusals.specs.declared.Refusal.{Refusal}
use Prim.Native.Nat.{ℕ, ◌*◌, ◌≤◌, ◌^◌}
use native.Mathlib.Omega.{arith}
use mathlib.Core.Path.{◌≡◌, refl, sym, ap, ◌∙◌}
use mathlib.Core.List.{List, [], ◌∷◌, ◌++◌}
use lib.ListN.{length, take}
use Rattle.facts.specs.Lists.{written}
use Rattle.facts.proofs.Setting.{written_front}
use Rattle.refusals.specs.declared.Refusal.TheVariants.{TextStops}
use Rattle.refusals.specs.Verdict as verdict
use Rattle.refusals.proofs.Order.{then_fine, then_fine_iff, room_fine_iff, refused_not_fine}
use Rattle.refusals.proofs.Promises.{said_by, fine_by, left_written, writes_unique, writes_fine, writes_refused}
use Rattle.rules.specs.Words.{rule_words, rule_count}
use Rattle.rules.specs.Good.{list_verdict_to}
use Rattle.rules.proofs.Lists.{good_of_fine}
use Rattle.text.specs.Line.{EachUnder}
use Rattle.text.specs.Text.{Reading, good, refused, split, lines_of}
use Rattle.text.proofs.Said.{written_apart}
use Rattle.rule_file.specs.declared.kind.Kind.{Kind}
use Rattle.rule_file.specs.Kinds.{kind_number, most_action, kind_of}
use Rattle.rule_file.specs.RuleText.{rules_in, text_of}
use Rattle.rule_file.specs.Reading.{words_in, read_verdict, RulesRead, HoldsRules}
use Rattle.rule_file.specs.Writing.{write_verdict, ListWritten}
use Rattle.rule_file.proofs.RoundTrips.{read_of_written, written_of_read, fine_of_read}
use Rattle.rule_file.proofs.RoundTrips.{good_of_read, cut_refused}
use Rattle.rule_file.proofs.ReadAnswers.{read_apart}
use Rattle.rule_file.proofs.KindOf.{kinds_apart}

-- ---- the writer

-- a list that is fine for the kind is written where there is room for its text
pub fit_written :
    (k : Kind) (ws before after : List ℕ) (t : Result ℕ Refusal) → list_verdict_to (most_action k) ws ≡ verdict.Fine →
    length (text_of k ws) ≤ length before → ListWritten k ws before t after → t ≡ Ok (length (text_of k ws))
fit_written k ws before after t fine room w =
    (writes_unique written_apart w (writes_fine (then_fine _ fine ∙ (room_fine_iff _ _).1 room) refl refl)).0

-- ---- after the writer

module _
    (k : Kind) (ws : List ℕ) {before after : List ℕ} {n : ℕ} (w : ListWritten k ws before (Ok n) after) where
  wrote : (write_verdict k ws (length before) ≡ verdict.Fine) × (n ∷ [] ≡ length (text_of k ws) ∷ [])
  wrote = fine_by (said_by w) refl

  -- the bytes in front are the text of a good list
  wrote_text : (take n after ≡ text_of k ws) × (list_verdict_to (most_action k) ws ≡ verdict.Fine)
  wrote_text =
      let size : length (text_of k ws) ≡ n = (let e = wrote.1 in cc) in
      (rw (left_written w wrote.0) (written_front (text_of k ws) before n size), ((then_fine_iff _ _).0 wrote.0).0)

  -- what was written reads back as the same words and kind
  pub reads_back :
      EachUnder (2 ^ 32) ws → {found left : List ℕ} {r : Result Rules Refusal} → length ws ≤ length found →
      RulesRead (take n after) found r left → (r ≡ HoldsRules (rule_count ws) k) × (left ≡ written ws found)
  reads_back b room q =
      let back = read_of_written k ws wrote_text.1 b in
      let kind : kind_of (take n after) ≡ k = rw wrote_text.0 back.0 in
      let e : rules_in (take n after) ≡ good ws = rw wrote_text.0 back.1 in
      writes_unique read_apart q (writes_fine (rw e ((room_fine_iff _ _).1 room)) (rw (e, kind)) (rw e))

-- ---- after the reader

module _ (s : List ℕ) {before after : List ℕ} {n : ℕ} {k : Kind} (r : RulesRead s before (HoldsRules n k) after) where
  -- the words in front are those that the text holds, and it is of the kind
  read_words : (rules_in s ≡ good (take (n * rule_words) after)) × (k ≡ kind_of s)
  read_words = go (rules_in s) refl (fine_by (said_by r) refl) (left_written r (fine_by (said_by r) refl).0)
    where
      go :
          (a : Reading (List ℕ)) → rules_in s ≡ a →
          (read_verdict a (length before) ≡ verdict.Fine) ×
          (n ∷ kind_number k ∷ [] ≡ rule_count (words_in a) ∷ kind_number (kind_of s) ∷ []) →
          after ≡ written (words_in a) before → (rules_in s ≡ good (take (n * rule_words) after)) × (k ≡ kind_of s)
      go (refused why) e w left = refused_not_fine w.0
      go (good ws) e w left =
          let count : n ≡ rule_count ws = (let z = w.1 in cc) in
          let kind : kind_number k ≡ kind_number (kind_of s) = (let z = w.1 in cc) in
          let whole = (good_of_fine ws (good_of_read s ws e)).whole in
          let size : length ws ≡ n * rule_words = omega (arith, whole) in
          (e ∙ rw left (ap good (sym (written_front ws before _ size))), kinds_apart k (kind_of s) kind)

  -- what was read is written back byte for byte by the writer of its kind
  pub writes_back :
      {found left : List ℕ} {t : Result ℕ Refusal} → length s ≤ length found →
      ListWritten k (take (n * rule_words) after) found t left → (t ≡ Ok (length s)) × (left ≡ written s found)
  writes_back room q =
      let e = written_of_read s _ read_words.0 in
      let fine = fine_of_read s _ read_words.0 in
      writes_unique written_apart (rw read_words.1 at q)
      (writes_fine (then_fine _ fine ∙ rw e ((room_fine_iff _ _).1 room)) (rw e) (rw e))

  -- cut before its end it is refused, with 10 and the number of whole lines left, and nothing is written
  pub cut_short :
      (p q : List ℕ) → s ≡ p ++ q → (q ≡ [] → ⊥) → {found left : List ℕ} {t : Result Rules Refusal} →
      RulesRead p found t left →
      (t ≡ Err (TextStops (length (lines_of (split p))))) × (left ≡ found)
  cut_short p q e more d =
      let stops = cut_refused p q _ (ap rules_in (sym e) ∙ read_words.0) more in
      writes_unique read_apart d (writes_refused {why = TextStops (length (lines_of (split p)))} (rw stops) refl refl)
