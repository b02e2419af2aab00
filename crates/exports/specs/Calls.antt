-- The promise of each C function: what its Rattle call promises, the answer in eight words. Definitions only.
use Rattle.std.specs.Prelude.{ℕ, List}
use Rattle.rules.specs.RuleCheck as rule_check
use Rattle.rules.specs.LineAll as line_all
use Rattle.rules.specs.LineFirst as line_first
use Rattle.rules.specs.Scan as scan
use Rattle.rules.specs.RuleMisses as rule_misses
use Rattle.trees.specs.TreeAll as tree_all
use Rattle.trees.specs.TreeFirst as tree_first
use Rattle.tree_check.specs.TreeCheck as tree_check
use Rattle.text.specs.Said as said
use Rattle.rule_file.specs.Writing as rules_write
use Rattle.rule_file.specs.Reading as rules_read
use Rattle.tree_file.specs.Writing as tree_write
use Rattle.tree_file.specs.Reading as tree_read
use Rattle.builder.specs.Build as build
use Rattle.exports.specs.Answers.{plainly, counts_last, in_two_words, first_in_words, InWords}

-- the lent words and the answer of a call
abbrev Words : Type 0
Words = List ℕ

abbrev pub RuleCheckAnswered : Words → Words → Type 0
RuleCheckAnswered rs answer = InWords plainly rule_check.paper (rule_check.RuleChecked rs) answer

abbrev pub LineAllAnswered : Words → Words → Words → Words → Words → Type 0
LineAllAnswered rs h found after answer =
    InWords plainly line_all.paper (λ r. line_all.LineAllSearched rs h found r after) answer

abbrev pub LineFirstAnswered : Words → Words → Words → Type 0
LineFirstAnswered rs h answer = InWords in_two_words line_first.paper (line_first.LineFirstSearched rs h) answer

abbrev pub ScanAllAnswered : Words → Words → Words → Words → Words → Type 0
ScanAllAnswered rs h found after answer =
    InWords plainly line_all.paper (λ r. scan.ScanAllSearched rs h found r after) answer

abbrev pub ScanFirstAnswered : Words → Words → Words → Type 0
ScanFirstAnswered rs h answer = InWords in_two_words line_first.paper (scan.ScanFirstSearched rs h) answer

abbrev pub RuleMissesAnswered : Words → Words → ℕ → Words → Type 0
RuleMissesAnswered rs h n answer = InWords plainly rule_misses.paper (rule_misses.RuleCompared rs h n) answer

abbrev pub TreeAllAnswered : Words → Words → Words → Words → Words → Words → Words → Type 0
TreeAllAnswered rs nodes pool h found after answer =
    InWords counts_last tree_all.paper (λ r. tree_all.TreeAllSearched rs nodes pool h found r after) answer

abbrev pub TreeFirstAnswered : Words → Words → Words → Words → Words → Type 0
TreeFirstAnswered rs nodes pool h answer =
    InWords first_in_words tree_first.paper (tree_first.TreeFirstSearched rs nodes pool h) answer

abbrev pub TreeCheckAnswered : Words → Words → Words → Words → Type 0
TreeCheckAnswered rs nodes pool answer =
    InWords plainly tree_check.paper (tree_check.TreeChecked rs nodes pool) answer

abbrev pub RulesWriteAnswered : Words → Words → Words → Words → Type 0
RulesWriteAnswered rs found after answer =
    InWords plainly said.paper (λ r. rules_write.RulesWritten rs found r after) answer

abbrev pub AclWriteAnswered : Words → Words → Words → Words → Type 0
AclWriteAnswered rs found after answer =
    InWords plainly said.paper (λ r. rules_write.AclWritten rs found r after) answer

abbrev pub RulesReadAnswered : Words → Words → Words → Words → Type 0
RulesReadAnswered s found after answer =
    InWords plainly rules_read.paper (λ r. rules_read.RulesRead s found r after) answer

abbrev pub TreeWriteAnswered : ℕ → Words → Words → Words → Words → Words → Type 0
TreeWriteAnswered n nodes pool found after answer =
    InWords plainly said.paper (λ r. tree_write.TreeWritten n nodes pool found r after) answer

abbrev pub TreeReadAnswered : Words → Words → Words → Words → Words → Words → Type 0
TreeReadAnswered s nodes pool nodes' pool' answer =
    InWords plainly tree_read.paper (λ r. tree_read.TreeRead s nodes pool r nodes' pool') answer

abbrev pub PartWriteAnswered : ℕ → Words → Words → Words → Words → Words → Type 0
PartWriteAnswered n nodes pool found after answer =
    InWords plainly said.paper (λ r. tree_write.PartWritten n nodes pool found r after) answer

abbrev pub PartReadAnswered : Words → Words → Words → Words → Words → Words → Type 0
PartReadAnswered s nodes pool nodes' pool' answer =
    InWords plainly tree_read.paper (λ r. tree_read.PartRead s nodes pool r nodes' pool') answer

abbrev pub BuildAnswered : Words → Words → Words → Words → Words → Words → Type 0
BuildAnswered rs nodes pool nodes' pool' answer =
    InWords plainly build.paper (λ r. build.TreeBuilt rs nodes pool r nodes' pool') answer

abbrev pub BuildSomeAnswered : Words → ℕ → Words → Words → Words → Words → Words → Type 0
BuildSomeAnswered rs most nodes pool nodes' pool' answer =
    InWords plainly build.step_paper (λ r. build.SomeBuilt rs most nodes pool r nodes' pool') answer

abbrev pub BuildOnAnswered : Words → ℕ → Words → Words → ℕ → Words → Words → Words → Words → Words → Type 0
BuildOnAnswered rs n part kept most nodes pool nodes' pool' answer =
    InWords plainly build.step_paper (λ r. build.OnBuilt rs n part kept most nodes pool r nodes' pool') answer
