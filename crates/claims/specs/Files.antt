-- Demand 2, the files: what the writers and the readers of rules, trees and parts keep, one call after another.
-- Statements only.
use Rattle.tree_file.specs.declared.read.Counts.{Counts}
use Rattle.rule_file.specs.declared.read.Rules.{Rules}
use Rattle.refusals.specs.declared.Refusal.{Refusal}
use Rattle.std.specs.Prelude.{ℕ, ◌*◌, ◌^◌, ◌≤◌, ◌≡◌, List, [], ◌++◌, length, take, Ok, Result, Err}
use Rattle.facts.specs.Lists.{written}
use Rattle.refusals.specs.declared.Refusal.TheVariants.{LineWrong, TextStops}
use Rattle.refusals.specs.Verdict.{Fine}
use Rattle.rules.specs.Words.{rule_words, rule_count}
use Rattle.rules.specs.Good.{list_verdict_to}
use Rattle.trees.specs.Words.{node_words, node_count}
use Rattle.text.specs.Line.{EachUnder}
use Rattle.text.specs.Text as text
use Rattle.rule_file.specs.declared.kind.Kind.{Kind}
use Rattle.rule_file.specs.Kinds.{most_action, kind_of}
use Rattle.rule_file.specs.ListText.{list_in}
use Rattle.rule_file.specs.RuleText.{format_of, text_of}
use Rattle.rule_file.specs.Reading.{RulesRead, HoldsRules}
use Rattle.rule_file.specs.Writing.{ListWritten}
use Rattle.tree_file.specs.TreeText.{Tree, tree_in, part_in}
use Rattle.tree_file.specs.TreeLines.{Spelling, file_text}
use Rattle.tree_file.specs.Reading.{FileRead, HoldsTree}
use Rattle.tree_file.specs.Writing.{FileWritten}

-- with room, a list that is fine for a kind is written; what was written reads back as the same words and kind; what
-- was read is written back byte for byte by the writer of its kind; and cut before its end it is refused with 10 and
-- the number of whole lines left
pub record RuleFile : Type 0 where
  pub writes :
      (k : Kind) (ws v w : List ℕ) (t : Result ℕ Refusal) → list_verdict_to (most_action k) ws ≡ Fine →
      length (text_of k ws) ≤ length v → ListWritten k ws v t w → t ≡ Ok (length (text_of k ws))
  pub reads_back :
      (k : Kind) (ws v w x y : List ℕ) (n : ℕ) (r : Result Rules Refusal) → ListWritten k ws v (Ok n) w →
      EachUnder (2 ^ 32) ws → length ws ≤ length x → RulesRead (take n w) x r y →
      (r ≡ HoldsRules (rule_count ws) k) × (y ≡ written ws x)
  pub writes_back :
      (k : Kind) (s v w x y : List ℕ) (n : ℕ) (t : Result ℕ Refusal) → RulesRead s v (HoldsRules n k) w →
      length s ≤ length x → ListWritten k (take (n * rule_words) w) x t y → (t ≡ Ok (length s)) × (y ≡ written s x)
  pub cut_short :
      (k : Kind) (p q v w x y : List ℕ) (n : ℕ) (t : Result Rules Refusal) → RulesRead (p ++ q) v (HoldsRules n k) w →
      (q ≡ [] → ⊥) → RulesRead p x t y →
      (t ≡ Err (TextStops (length (text.lines_of (text.split p))))) × (y ≡ x)

-- its kind is the one in whose format its lines read well
abbrev pub RuleKind : Type 0
RuleKind = (k : Kind) (s ws : List ℕ) → list_in (format_of k) s ≡ text.good ws → kind_of s ≡ k

-- the same of a file that holds a tree behind a first word: that of a tree, or of a part, whose compile was stopped
pub record TreeFile (word : List ℕ) : Type 0 where
  pub writes :
      (n : ℕ) (ns es v w : List ℕ) (t : Result ℕ Refusal) → Spelling n ns es → length (file_text word n ns es) ≤ length v →
      FileWritten word n ns es v t w → t ≡ Ok (length (file_text word n ns es))
  pub reads_back :
      (n m : ℕ) (ns es v w a b x y : List ℕ) (r : Result Counts Refusal) → FileWritten word n ns es v (Ok m) w →
      EachUnder (2 ^ 32) ns → length ns ≤ length a → length es ≤ length b → FileRead word (take m w) a b r x y →
      (r ≡ HoldsTree n (node_count ns) (length es)) × (x ≡ written ns a) × (y ≡ written es b)
  pub writes_back :
      (n m p : ℕ) (s a b c d x y : List ℕ) (t : Result ℕ Refusal) → FileRead word s a b (HoldsTree n m p) c d →
      length s ≤ length x → FileWritten word n (take (m * node_words) c) (take p d) x t y →
      (t ≡ Ok (length s)) × (y ≡ written s x)
  pub cut_short :
      (n m p : ℕ) (u v a b c d e f x y : List ℕ) (t : Result Counts Refusal) →
      FileRead word (u ++ v) a b (HoldsTree n m p) c d → (v ≡ [] → ⊥) → FileRead word u e f t x y →
      (t ≡ Err (TextStops (length (text.lines_of (text.split u))))) × (x ≡ e) × (y ≡ f)

-- no text is both a tree's file and a part's: what reads well as the one is refused as the other, with 9 at line 1
pub record TreeOrPart : Type 0 where
  pub tree_only : (s : List ℕ) (t : Tree) → tree_in s ≡ text.good t → part_in s ≡ text.refused (LineWrong 1)
  pub part_only : (s : List ℕ) (t : Tree) → part_in s ≡ text.good t → tree_in s ≡ text.refused (LineWrong 1)
