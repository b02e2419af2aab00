-- Demand 1, the promises: each fixes the result and all lent memory; and a refused call alters none. Statements only.
--   Calls      a line for each call: its promise allows one result (`Fixes`) and one state of the lent words
--              (`Settles`); a refusal leaves them as found, and a success those past what was written (`WritesOnly`)
--   nodes_of i vs        the words of as many nodes as value i says
--   WritesBytes w P      `WritesOnly` of a call that says how many bytes it wrote
use Rattle.policy.specs.declared.tree.Words.{Words}
use Rattle.policy.specs.declared.part.Begun.{Begun}
use Rattle.refusals.specs.declared.Refusal.{Refusal}
use Rattle.std.specs.Prelude.{ℕ, ◌*◌, Bool, ◌≡◌, List, Result}
use Rattle.std.proofs.Math.Option.{Option}
use Rattle.refusals.specs.Promises.{Fixes, Settles, WritesOnly, WritesBoth, value}
use Rattle.refusals.specs.Verdict.{Verdict}
use Rattle.rules.specs as rules
use Rattle.trees.specs as trees
use Rattle.tree_check.specs as check
use Rattle.rule_file.specs as rule_file
use Rattle.tree_file.specs as tree_file
use Rattle.builder.specs.Build as builder
use Rattle.text.specs as text
use Rattle.console.specs.declared.gather.Gathering.{Gathering}
use Rattle.console.specs as console
use Rattle.policy.specs as policy
use Rattle.exports.specs.Calls as c
use Rattle.exports.specs.Answers.{plainly, counts_last, in_two_words, first_in_words, Tells, TellsOne, TellsBoth}

abbrev nodes_of : ℕ → List ℕ → ℕ
nodes_of i vs = value i vs * trees.Words.node_words

abbrev WritesBytes : List ℕ → (Result ℕ Refusal → List ℕ → Type 0) → Type 0
WritesBytes w P = WritesOnly w P text.Said.paper (value 0)

pub record Calls : Type 0 where
  pub rule_check : (rs : List ℕ) → Fixes (rules.RuleCheck.RuleChecked rs)
  pub line_all : (rs h w : List ℕ) → WritesOnly w (rules.LineAll.LineAllSearched rs h w) rules.LineAll.paper (value 0)
  pub line_first : (rs h : List ℕ) → Fixes (rules.LineFirst.LineFirstSearched rs h)
  pub scan_all : (rs h w : List ℕ) → WritesOnly w (rules.Scan.ScanAllSearched rs h w) rules.LineAll.paper (value 0)
  pub scan_first : (rs h : List ℕ) → Fixes (rules.Scan.ScanFirstSearched rs h)
  pub rule_misses : (rs h : List ℕ) (n : ℕ) → Fixes (rules.RuleMisses.RuleCompared rs h n)
  pub tree_all : (rs ns es h w : List ℕ) →
      WritesOnly w (trees.TreeAll.TreeAllSearched rs ns es h w) trees.TreeAll.paper (value 2)
  pub tree_first : (rs ns es h : List ℕ) → Fixes (trees.TreeFirst.TreeFirstSearched rs ns es h)
  pub tree_check : (rs ns es : List ℕ) → Fixes (check.TreeCheck.TreeChecked rs ns es)
  pub part_check : (rs : List ℕ) (n : ℕ) (ns es : List ℕ) → Fixes (λ r. r ≡ check.PartCheck.so_far_verdict rs n ns es)
  pub rules_write : (rs w : List ℕ) → WritesBytes w (rule_file.Writing.RulesWritten rs w)
  pub acl_write : (rs w : List ℕ) → WritesBytes w (rule_file.Writing.AclWritten rs w)
  pub rules_read : (s w : List ℕ) →
      WritesOnly w (rule_file.Reading.RulesRead s w) rule_file.Reading.paper (λ vs. value 0 vs * rules.Words.rule_words)
  pub tree_write : (k : ℕ) (ns es w : List ℕ) → WritesBytes w (tree_file.Writing.TreeWritten k ns es w)
  pub tree_read : (s ns es : List ℕ) →
      WritesBoth ns es (tree_file.Reading.TreeRead s ns es) tree_file.Reading.paper (nodes_of 1) (value 2)
  pub part_write : (k : ℕ) (ns es w : List ℕ) → WritesBytes w (tree_file.Writing.PartWritten k ns es w)
  pub part_read : (s ns es : List ℕ) →
      WritesBoth ns es (tree_file.Reading.PartRead s ns es) tree_file.Reading.paper (nodes_of 1) (value 2)
  pub build : (rs ns es : List ℕ) →
      WritesBoth ns es (builder.TreeBuilt rs ns es) builder.paper (nodes_of 0) (value 1)
  pub build_some : (rs : List ℕ) (most : ℕ) (ns es : List ℕ) →
      WritesBoth ns es (builder.SomeBuilt rs most ns es) builder.step_paper (nodes_of 0) (value 1)
  pub build_on : (rs : List ℕ) (n : ℕ) (part kept : List ℕ) (most : ℕ) (ns es : List ℕ) →
      WritesBoth ns es (builder.OnBuilt rs n part kept most ns es) builder.step_paper (nodes_of 0) (value 1)
  pub reply : (by : Bool) (rs ns es : List ℕ) (k : ℕ) (l w : List ℕ) →
      WritesBytes w (text.Said.Said (console.Replies.line_reply (console.Replies.answer_to by rs ns es) k l) w)
  pub feed : (by : Bool) (rs ns es : List ℕ) (g : Gathering) (bs w : List ℕ) →
      Settles (console.Feeding.IsFed (console.Replies.answer_to by rs ns es) g bs w)
  pub feed_why : (rs : List ℕ) (n : ℕ) (g : Gathering) (bs w : List ℕ) →
      Settles (console.Feeding.IsFed (console.MissLines.miss_answer rs n) g bs w)
  pub last_reply : (g : Gathering) (w : List ℕ) → WritesBytes w (text.Said.Said (console.Gathered.last_reply g) w)
  pub take_list : (f : Option (List ℕ)) (w : List ℕ) →
      WritesOnly w (policy.TakeList.ListTaken f w) policy.TakeList.paper (value 0)
  pub take_tree : (f : Option (List ℕ)) (ns es : List ℕ) →
      WritesBoth ns es (policy.TakeTree.TreeTaken f ns es) policy.TakeTree.paper (value 0) (value 1)
  pub who_serves : (t : Result Words Refusal) (rs ns es : List ℕ) → Fixes (λ r. r ≡ policy.WhoServes.serving_of t rs ns es)
  pub verdict_line : (v : Verdict) (w : List ℕ) → WritesBytes w (text.Said.Said (policy.Output.verdict_line v) w)
  pub compile_text : (rs w : List ℕ) → WritesBytes w (policy.Compiled.TextCompiled rs w)
  pub take_part : (f : Option (List ℕ)) (ns es : List ℕ) →
      WritesBoth ns es (policy.TakePart.PartTaken f ns es) policy.TakePart.paper (value 1) (value 2)
  pub goes_on : (t : Result Begun Refusal) (rs ns es : List ℕ) → Fixes (λ r. r ≡ policy.TakePart.goes_on t rs ns es)
  pub some_text : (rs : List ℕ) (most : ℕ) (w : List ℕ) → WritesBytes w (policy.Steps.SomeWritten rs most w)
  pub on_text : (rs : List ℕ) (n : ℕ) (part kept : List ℕ) (most : ℕ) (w : List ℕ) →
      WritesBytes w (policy.Steps.OnWritten rs n part kept most w)
  -- the C functions: what the promise of the call allows, in eight words (`Tells`, `TellsOne`, `TellsBoth`)
  pub wick_rule_check : (rs : List ℕ) →
      Tells plainly rules.RuleCheck.paper (rules.RuleCheck.RuleChecked rs) (c.RuleCheckAnswered rs)
  pub wick_line_all : (rs h w : List ℕ) →
      TellsOne plainly rules.LineAll.paper (rules.LineAll.LineAllSearched rs h w) (c.LineAllAnswered rs h w)
  pub wick_line_first : (rs h : List ℕ) →
      Tells in_two_words rules.LineFirst.paper (rules.LineFirst.LineFirstSearched rs h) (c.LineFirstAnswered rs h)
  pub wick_scan_all : (rs h w : List ℕ) →
      TellsOne plainly rules.LineAll.paper (rules.Scan.ScanAllSearched rs h w) (c.ScanAllAnswered rs h w)
  pub wick_scan_first : (rs h : List ℕ) →
      Tells in_two_words rules.LineFirst.paper (rules.Scan.ScanFirstSearched rs h) (c.ScanFirstAnswered rs h)
  pub wick_rule_misses : (rs h : List ℕ) (n : ℕ) →
      Tells plainly rules.RuleMisses.paper (rules.RuleMisses.RuleCompared rs h n) (c.RuleMissesAnswered rs h n)
  pub wick_tree_all : (rs ns es h w : List ℕ) →
      TellsOne counts_last trees.TreeAll.paper (trees.TreeAll.TreeAllSearched rs ns es h w)
      (c.TreeAllAnswered rs ns es h w)
  pub wick_tree_first : (rs ns es h : List ℕ) →
      Tells first_in_words trees.TreeFirst.paper (trees.TreeFirst.TreeFirstSearched rs ns es h)
      (c.TreeFirstAnswered rs ns es h)
  pub wick_tree_check : (rs ns es : List ℕ) →
      Tells plainly check.TreeCheck.paper (check.TreeCheck.TreeChecked rs ns es) (c.TreeCheckAnswered rs ns es)
  pub wick_rules_write : (rs w : List ℕ) →
      TellsOne plainly text.Said.paper (rule_file.Writing.RulesWritten rs w) (c.RulesWriteAnswered rs w)
  pub wick_acl_write : (rs w : List ℕ) →
      TellsOne plainly text.Said.paper (rule_file.Writing.AclWritten rs w) (c.AclWriteAnswered rs w)
  pub wick_rules_read : (s w : List ℕ) →
      TellsOne plainly rule_file.Reading.paper (rule_file.Reading.RulesRead s w) (c.RulesReadAnswered s w)
  pub wick_tree_write : (k : ℕ) (ns es w : List ℕ) →
      TellsOne plainly text.Said.paper (tree_file.Writing.TreeWritten k ns es w) (c.TreeWriteAnswered k ns es w)
  pub wick_tree_read : (s ns es : List ℕ) →
      TellsBoth plainly tree_file.Reading.paper (tree_file.Reading.TreeRead s ns es) (c.TreeReadAnswered s ns es)
  pub wick_part_write : (k : ℕ) (ns es w : List ℕ) →
      TellsOne plainly text.Said.paper (tree_file.Writing.PartWritten k ns es w) (c.PartWriteAnswered k ns es w)
  pub wick_part_read : (s ns es : List ℕ) →
      TellsBoth plainly tree_file.Reading.paper (tree_file.Reading.PartRead s ns es) (c.PartReadAnswered s ns es)
  pub wick_build : (rs ns es : List ℕ) →
      TellsBoth plainly builder.paper (builder.TreeBuilt rs ns es) (c.BuildAnswered rs ns es)
  pub wick_build_some : (rs : List ℕ) (most : ℕ) (ns es : List ℕ) →
      TellsBoth plainly builder.step_paper (builder.SomeBuilt rs most ns es) (c.BuildSomeAnswered rs most ns es)
  pub wick_build_on : (rs : List ℕ) (n : ℕ) (part kept : List ℕ) (most : ℕ) (ns es : List ℕ) →
      TellsBoth plainly builder.step_paper (builder.OnBuilt rs n part kept most ns es)
      (c.BuildOnAnswered rs n part kept most ns es)
