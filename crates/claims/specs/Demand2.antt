-- Demand 2, the answers: which lists have twins, and what is listed, by the list or by a tree that serves it.
-- Statements only.
use Rattle.trees.specs.declared.search.Listed.{Listed}
use Rattle.refusals.specs.declared.Refusal.{Refusal}
use Rattle.std.specs.Prelude.{ℕ, ◌<◌, true, ◌↔◌, ◌≡◌, List, Ok, Result}
use Rattle.refusals.specs.declared.Refusal.TheVariants.{RuleHasTwin}
use Rattle.refusals.specs.Verdict.{Fine, Refused}
use Rattle.refusals.specs.Order.{◌then◌, ◌giving◌}
use Rattle.fields.specs as fields
use Rattle.rules.specs as rules
use Rattle.rules.specs.Twins.{same_words, Alike, NoTwins, FirstTwins}
use Rattle.rules.specs.Words.{match_words, rule_count, word_of}
use Rattle.rules.specs.Good.{good, rules_verdict, list_verdict_to, list_verdict}
use Rattle.rules.specs.Matching.{matches, matching, rule_box}
use Rattle.rules.specs.LineFirst.{first_of}
use Rattle.rules.specs.Scan.{scan_count}
use Rattle.rules.specs.Found.{AllMatches, FirstMatch, NoMatch}
use Rattle.trees.specs as trees
use Rattle.text.specs.Text as text
use Rattle.rule_file.specs.RuleText.{lines_in, rules_in}

-- two rules are twins where they have the same word at each place but the action's; a list is fine exactly where it has
-- none and 1 and 2 do not refuse it; where they do not, it is refused with 11 exactly if it has twins: the place is the
-- lowest rule with a twin before it, and the extra that one, the only one; and so is a text whose lines read well
pub record Twins : Type 0 where
  pub words :
      (rs : List ℕ) (q r : ℕ) →
      (same_words rs q r ≡ true) ↔
      ((j : ℕ) → j < match_words → word_of rs q j ≡ word_of rs r j)
  pub none :
      (most : ℕ) (rs : List ℕ) → (list_verdict_to most rs ≡ Fine) ↔ ((rules_verdict most rs ≡ Fine) × NoTwins rs)
  pub eleven :
      (most : ℕ) (rs : List ℕ) →
      ((r : ℕ) × (q : ℕ) × (list_verdict_to most rs ≡ Refused (RuleHasTwin r q))) ↔
      ((rules_verdict most rs ≡ Fine) × ((r : ℕ) × (q : ℕ) × Alike rs q r))
  pub eleven_at :
      (most : ℕ) (rs : List ℕ) (r q : ℕ) →
      (list_verdict_to most rs ≡ Refused (RuleHasTwin r q)) ↔ ((rules_verdict most rs ≡ Fine) × FirstTwins rs r q)
  pub in_text :
      (s : List ℕ) (r q : ℕ) →
      (rules_in s ≡ text.refused (RuleHasTwin r q)) ↔
      ((ws : List ℕ) × (lines_in s ≡ text.good ws) × FirstTwins ws r q)

-- what is listed is exactly what matches, rising; the first match is the lowest, with its action; where none is said,
-- none matches: of a line search, and of a scan of any words for the rules that it looks at, which are all those of a
-- good list; and a good rule matches exactly the headers in its box
pub record Matching : Type 0 where
  pub line_all :
      (rs h before after : List ℕ) (n : ℕ) → rules.LineAll.LineAllSearched rs h before (Ok n) after →
      AllMatches (rule_count rs) rs h n after
  pub line_first :
      (rs h : List ℕ) (n a : ℕ) → rules.LineFirst.LineFirstSearched rs h (rules.Hits.Rule n a) →
      FirstMatch (rule_count rs) rs h n a
  pub line_none : (rs h : List ℕ) → rules.LineFirst.LineFirstSearched rs h rules.Hits.NoRule → NoMatch (rule_count rs) rs h
  pub scan_all :
      (rs h before after : List ℕ) (n : ℕ) → rules.Scan.ScanAllSearched rs h before (Ok n) after →
      AllMatches (scan_count rs) rs h n after
  pub scan_first :
      (rs h : List ℕ) (n a : ℕ) → rules.Scan.ScanFirstSearched rs h (rules.Hits.Rule n a) → FirstMatch (scan_count rs) rs h n a
  pub scan_none : (rs h : List ℕ) → rules.Scan.ScanFirstSearched rs h rules.Hits.NoRule → NoMatch (scan_count rs) rs h
  pub scan_counts : (rs : List ℕ) → list_verdict rs ≡ Fine → scan_count rs ≡ rule_count rs
  pub box :
      (rs : List ℕ) (r : ℕ) → good rs r ≡ true → (h : List ℕ) →
      (matches rs h r ≡ true) ↔ fields.Boxes.Inside fields.Words.field_count (rule_box rs r) h

-- by a tree that serves the list, any header and room are refused as by the list and leave the same words, and have the
-- list's first match or refusal; so a legal header completes both searches, and their answers mean what the list's do
pub record ByTree (rs ns es : List ℕ) : Type 0 where
  pub refuses : (h : List ℕ) (n : ℕ) → trees.TreeAll.tree_all_verdict rs ns es h n ≡ rules.LineAll.all_verdict rs h n
  pub leaves :
      (h found : List ℕ) {r : Result Listed Refusal} {s : Result ℕ Refusal} {v w : List ℕ} →
      trees.TreeAll.TreeAllSearched rs ns es h found r v → rules.LineAll.LineAllSearched rs h found s w → v ≡ w
  pub same_first :
      (h : List ℕ) → (trees.Search.reach_verdict rs ns es h giving first_of rs (trees.Search.tree_list rs ns es h)) ≡
      ((list_verdict rs then fields.Headers.header_verdict h) giving first_of rs (matching rs h))
  pub all :
      (h before after : List ℕ) (n v k : ℕ) →
      trees.TreeAll.TreeAllSearched rs ns es h before (trees.Answers.Found n v k) after →
      AllMatches (rule_count rs) rs h n after
  pub first :
      (h : List ℕ) (n a v k : ℕ) → trees.TreeFirst.TreeFirstSearched rs ns es h (trees.Answers.Rule n a v k) →
      FirstMatch (rule_count rs) rs h n a
  pub none :
      (h : List ℕ) (v k : ℕ) → trees.TreeFirst.TreeFirstSearched rs ns es h (trees.Answers.NoRule v k) →
      NoMatch (rule_count rs) rs h
