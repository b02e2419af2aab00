-- A list of rules, cut into the words of each rule.
use Prim.Native.Nat.{ℕ, ◌+◌, ◌*◌, ◌<◌}
use native.Mathlib.Omega.{arith}
use mathlib.Core.List.{List}
use mathlib.Core.Path.{◌≡◌, sym, ◌∙◌}
use lib.ListN.{length, drop}
use lib.Seq.{get_or-take, get_or-drop}
use borrow.Author.Tests.{lt-ltb}
use Rattle.rules.specs.Words.{rule_words, rule_count, word_of}
use Rattle.rules.specs.Good as rules
use Rattle.rules.proofs.Forms.{good_same}
use Rattle.rules.proofs.AnyWords.{good_decides}
use Rattle.rule_file.specs.Records.{rule_at}

word_at : (ws : List ℕ) (i k : ℕ) → k < rule_words → word_of (rule_at ws i) 0 k ≡ word_of ws i k
word_at ws i k h =
    let e : 0 * rule_words + k ≡ k = omega arith in
    rw e (get_or-take rule_words (drop (i * rule_words) ws) k 0 h ∙ get_or-drop (i * rule_words) ws k 0)

-- the words of a rule are good, with an action of at most `most`, exactly where the rule is in its list
pub good_at : (most : ℕ) (ws : List ℕ) (i : ℕ) → rules.good_to most (rule_at ws i) 0 ≡ rules.good_to most ws i
good_at most ws i = good_same most (rule_at ws i) ws 0 i (word_at ws i)

-- as many words as a rule has are wholly lent as a rule, so what they say decides
pub one_good : (r : List ℕ) → length r ≡ rule_words → rules.rule_good r 0 ≡ rules.good r 0
one_good r l = sym (good_decides r 0 (lt-ltb 0 (rule_count r) (omega arith)))
