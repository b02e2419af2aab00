-- What the first line and the line of a rule come to, in a text of a kind.
use Prim.Native.Nat.{ℕ, ◌+◌, ◌*◌, ◌^◌, ◌≤◌, ◌<◌}
use native.Mathlib.Omega.{arith}
use mathlib.Core.Bool.{true, false}
use mathlib.Core.Option.{none, some}
use mathlib.Core.List.{List, [], ◌++◌}
use mathlib.Core.Path.{◌≡◌, refl, ap, ◌∙◌}
use lib.ListN.{length, get_or}
use lib.Seq.{sets}
use borrow.Author.Tests.{lt-ltb, le-leb, lt-leb}
use Rattle.refusals.specs.declared.Refusal.{Refusal}
use Rattle.text.specs.declared.cursor.Cursor.{Cursor}
use Rattle.text.specs.Words.{rule_word, one_tab}
use Rattle.text.specs.Text.{refused}
use Rattle.text.specs.Cursors.{wrong_at, cursor_at}
use Rattle.text.specs.Onward.{Stands}
use Rattle.text.proofs.Lines.{line_exact}
use Rattle.text.proofs.LineViews.{number_at}
use Rattle.text.proofs.NextLines.{Taken, LineRefused}
use Rattle.text.proofs.Onward.{top_stands, next_stands, on_next, on_wrong, not_taken}
use Rattle.rules.specs.Words.{rule_words, most_rules}
use Rattle.rule_file.specs.Records.{rule_of, rule_fits}
use Rattle.rule_file.specs.ListText.{State, start, within, finish, list_in}
use Rattle.rule_file.specs.declared.kind.Kind.{Kind}
use Rattle.rule_file.specs.Kinds.{list_word_of, marks_of}
use Rattle.rule_file.specs.RuleText.{format_of}
use Rattle.rule_file.specs.ReadSteps.{rules_step, rules_from, RulesAnnounced, RuleStored}
use Rattle.rule_file.proofs.Records.{rule_length}
use Rattle.rule_file.proofs.KindRecords.{padded_same}

-- ---- the first line

abbrev top : Cursor
top = cursor_at 0 0

from_start : (k : Kind) (s : List ℕ) → list_in (format_of k) s ≡ rules_from k start s top
unfolding list_in
from_start k s = refl

module _ (k : Kind) {s : List ℕ} (small : length s < 2 ^ 63) where
  module _ {d : Cursor} {values : List ℕ} (t : Taken s top (list_word_of k) one_tab d values) where
    count : get_or values 0 0 ≡ get_or t.vs 0 0
    count = number_at (list_word_of k) one_tab t.this t.read t.holds (omega arith) 0 (omega arith)

    -- a first line of at most 512 rules is read on behind it
    pub first_taken : get_or values 0 0 ≤ most_rules → RulesAnnounced k s (get_or values 0 0) d
    first_taken h =
        let n : ℕ = get_or values 0 0 in
        let e : rules_step k start t.this ≡ some (within n 0 []) = rw (t.read, ← count, le-leb n most_rules h) in
        record {
          moved =
              from_start k s ∙
              on_next small (top_stands s) (rules_step k) finish start d (within n 0 []) t.next t.count e;
          stands = next_stands small (top_stands s) t.next t.within t.count;
          few = h;
        }

    -- a first line of more rules is wrong
    pub first_wrong :
        {why : Refusal} → most_rules < get_or values 0 0 → why ≡ wrong_at 0 → list_in (format_of k) s ≡ refused why
    first_wrong h q =
        let e : rules_step k start t.this ≡ none = rw (t.read, ← count, lt-leb (get_or values 0 0) most_rules h) in
        from_start k s ∙ on_wrong small (top_stands s) (rules_step k) finish start t.next e q

  -- where no first line was taken, the text is refused
  pub first_not :
      {why : Refusal} → LineRefused s top (list_word_of k) one_tab why → list_in (format_of k) s ≡ refused why
  first_not r = from_start k s ∙ not_taken small (top_stands s) (rules_step k) finish start r refl (λ l e. rw e)

-- ---- the line of a rule

module _ (k : Kind) {s : List ℕ} {c : Cursor} (small : length s < 2 ^ 63) (stands : Stands s c) (i : ℕ) where
  module _ {d : Cursor} {values : List ℕ} (t : Taken s c rule_word (marks_of k) d values) where
    numbers : length t.vs ≡ length (marks_of k)
    numbers = (line_exact rule_word (marks_of k) t.this t.vs t.read).count

    -- the test and the rule are those of the numbers that the line has
    fits_same : rule_fits i values ≡ rule_fits i t.vs
    fits_same = ap (rule_fits i) t.holds ∙ (padded_same k i t.vs numbers).0

    rule_same : rule_of values ≡ rule_of t.vs
    rule_same = ap rule_of t.holds ∙ (padded_same k i t.vs numbers).1

    -- a line that passes the test gives the words of its rule
    pub rule_taken :
        {old new : List ℕ} → rule_fits i values ≡ true → new ≡ sets old (i * rule_words) (rule_of values) →
        RuleStored k s c i old new d
    rule_taken h stored =
        let next : ℕ → List ℕ → State = λ n ws. within n (i + 1) (ws ++ rule_of values) in
        let e : (n : ℕ) (ws : List ℕ) → i < n → rules_step k (within n i ws) t.this ≡ some (next n ws) =
        λ n ws p. rw (lt-ltb i n p, t.read, ← fits_same, h, rule_same) in
        record {
          words = rule_of values;
          moved =
              λ n ws p.
              on_next small stands (rules_step k) finish (within n i ws) d (next n ws) t.next t.count (e n ws p);
          size = rule_length values;
          rules_are = stored;
          stands = next_stands small stands t.next t.within t.count;
        }

    -- a line that does not pass the test is wrong
    pub rule_wrong :
        {why : Refusal} → rule_fits i values ≡ false → why ≡ wrong_at c.lines → (n : ℕ) (ws : List ℕ) → i < n →
        rules_from k (within n i ws) s c ≡ refused why
    rule_wrong h q n ws p =
        on_wrong small stands (rules_step k) finish (within n i ws) t.next
        (rw (lt-ltb i n p, t.read, ← fits_same, h)) q

  -- where no line of a rule was taken, the text is refused
  pub rule_not :
      {why : Refusal} → LineRefused s c rule_word (marks_of k) why → (n : ℕ) (ws : List ℕ) → i < n →
      rules_from k (within n i ws) s c ≡ refused why
  rule_not r n ws p = not_taken small stands (rules_step k) finish (within n i ws) r refl (λ l e. rw (lt-ltb i n p, e))
