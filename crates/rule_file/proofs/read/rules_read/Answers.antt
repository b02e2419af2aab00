-- `rule_file::read::rules_read` meets its contract: the lines decide, and then what comes of their words. Assumes
-- nothing.
use Rattle.std.specs.Prelude.{Result, Ok}
use Rattle.rule_file.specs.declared.read.Rules.{Rules}
use Rattle.refusals.proofs.Passing.{passed}
use Rattle.refusals.specs.declared.Refusal.{Refusal}
use Prim.Native.Nat.{ℕ, ◌*◌, ◌≤◌}
use native.Mathlib.Omega.{arith}
use mathlib.Core.Path.{◌≡◌, sym, subst}
use lib.ListN.{length, replicate, length-replicate}
use lib.Seq.{length-take-le}
use Rattle.rules.specs.Words.{rule_words, most_rules}
use Rattle.rule_file.specs.Kinds.{kind_of}
use Rattle.rule_file.specs.RuleText.{lines_in}
use Rattle.rule_file.specs.ReadSteps.{PassRead}
use Rattle.rule_file.proofs.ReadAnswers.{text_refused, words_answer, stored_front}
use Rattle.rule_file.proofs.read.rules_read.Goals as goal
use Rattle.rule_file.proofs.read.rules_read.Goals.{After-read_lines}

-- what reading the lines found
found :
    (p : goal.After-read_lines) {r : Result Rules Refusal} → p.read_lines.result ≡ r →
    let s = p.args.text.now in
    PassRead (kind_of s) (lines_in s) (replicate (most_rules * rule_words) 0) p.read_lines.new.rules r
found p e =
    let s = p.args.text.now in
    subst (PassRead (kind_of s) (lines_in s) (replicate (most_rules * rule_words) 0) _) e p.read_lines.ensures

-- there is room for the words of as many rules as there may be
room : length (replicate {A = ℕ} (most_rules * rule_words) 0) ≡ most_rules * rule_words
room = length-replicate {A = ℕ} (most_rules * rule_words) 0

-- the words that were counted are among them
within :
    (p : goal.After-read_lines) {r : Rules} → p.read_lines.result ≡ Ok r →
    r.rules * rule_words ≤ length p.read_lines.new.rules
within p e = omega (arith, (found p e).few, p.read_lines.auto.rules, room)

pub overflow_mul-end : goal.overflow_mul-end
overflow_mul-end c = omega (arith, (found (goal.at.overflow_mul-end c).After-read_lines c.in_ok-read.was).few)

pub slice_bounds-words-end : goal.slice_bounds-words-end
slice_bounds-words-end c = within (goal.at.slice_bounds-words-end c).After-read_lines c.in_ok-read.was

pub slice_bounds-take_words-end : goal.slice_bounds-take_words-end
slice_bounds-take_words-end c = sym (length-take-le _ c.read_lines.new.rules (within (goal.at.slice_bounds-take_words-end c).After-read_lines c.in_ok-read.was))

pub returns-in_err-read : goal.returns-in_err-read
returns-in_err-read c = rw (passed _ c.from_residual.ensures.1)
    (text_refused _ (found (goal.at.returns-in_err-read c).After-read_lines c.in_err-read.was))

pub returns : goal.returns
returns c = let stored = found (goal.at.returns c).After-read_lines c.in_ok-read.was in
    words_answer _ stored.words stored.says stored.kind
    (rw (stored_front stored room) at c.take_words.ensures)
