-- The text of a good list is short enough for a place to stand behind it.
use Prim.Native.Nat.{ℕ, ◌+◌, ◌*◌, ◌^◌, ◌≤◌, ◌<◌}
use native.Mathlib.Omega.{arith}
use mathlib.Core.List.{List, [], ◌∷◌, ◌++◌}
use mathlib.Core.Path.{◌≡◌, refl, ap}
use lib.ListN.{length, drop, length-append}
use Rattle.refusals.specs.Verdict.{Fine}
use Rattle.text.specs.Words.{rule_word, end_word, one_tab}
use Rattle.text.specs.Line.{print_line, ended, EachUnder}
use Rattle.text.specs.Text.{unlines}
use Rattle.text.specs.EndLines.{end_line}
use Rattle.text.proofs.Below.{below_drop, below_take}
use Rattle.text.proofs.Sizes.{number_most, line_size}
use Rattle.text.proofs.Files.{records_size}
use Rattle.rules.specs.Words.{rule_words, most_rules, rule_count}
use Rattle.rules.specs.Good.{list_verdict_to}
use Rattle.rules.proofs.Lists.{fine_iff_good}
use Rattle.rule_file.specs.declared.kind.Kind.{Kind}
use Rattle.rule_file.specs.declared.kind.Kind.TheVariants.{Rules, Acl}
use Rattle.rule_file.specs.Records.{rule_values, rule_at}
use Rattle.rule_file.specs.ListText.{first_line, line_of, rule_lines}
use Rattle.rule_file.specs.Kinds.{list_word_of, marks_of, most_action}
use Rattle.rule_file.specs.RuleText.{values_of, format_of, text_of}
use Rattle.rule_file.proofs.Records.{values_below}
use Rattle.rule_file.proofs.KindRecords.{values_count}
use Rattle.rule_file.proofs.Writing.{text_parts}

-- a line with its newline takes no more than its word, so many bytes for each number, and one
line_length :
    (w ms vs : List ℕ) → EachUnder (2 ^ 32) vs →
    length (ended (print_line w ms vs)) ≤ length w + length vs * number_most + 1
line_length w ms vs b = simp length-append (omega (arith, line_size w ms vs b))

few_marks : (k : Kind) → length (marks_of k) ≤ 18
few_marks Rules = omega arith
few_marks Acl = omega arith

short_word : (k : Kind) → length (list_word_of k) ≤ 5
short_word Rules = omega arith
short_word Acl = omega arith

rule_length :
    (k : Kind) (ws : List ℕ) (i : ℕ) → i < most_rules → EachUnder (2 ^ 32) ws →
    length (ended (line_of (format_of k) ws i)) ≤ 2 ^ 38
rule_length k ws i h b =
    let r : List ℕ = rule_at ws i in
    let words = below_take (2 ^ 32) rule_words (drop (i * rule_words) ws) (below_drop (2 ^ 32) (i * rule_words) ws b) in
    let below = below_take (2 ^ 32) (length (marks_of k)) (rule_values i r) (values_below i r (omega arith) words) in
    let line = line_length rule_word (marks_of k) (values_of k i r) below in
    omega (arith, line, values_count k i r, few_marks k)

-- the text of a good list of words of 32 bits has fewer than 2 ^ 63 bytes
pub text_fits :
    (k : Kind) (ws : List ℕ) → list_verdict_to (most_action k) ws ≡ Fine → EachUnder (2 ^ 32) ws →
    length (text_of k ws) < 2 ^ 63
text_fits k ws e b =
    let n : ℕ = rule_count ws in
    let g = ((fine_iff_good (most_action k) ws).0 e).0 in
    let few : n ≤ most_rules = omega (arith, g.few) in
    let first = line_length (list_word_of k) one_tab (n ∷ []) (omega arith, tt) in
    let last = line_length end_word one_tab ((n + 1) ∷ []) (omega arith, tt) in
    let each : (i : ℕ) → i < n → length (ended (line_of (format_of k) ws i)) ≤ 2 ^ 38 =
    λ i h. rule_length k ws i (omega arith) b in
    let rules = records_size (line_of (format_of k) ws) (2 ^ 38) n each n (omega arith) in
    let top : List ℕ = ended (first_line (format_of k) n) in
    let lines : List ℕ = unlines (rule_lines (format_of k) ws n) in
    let front = length-append top lines in
    let all = length-append (top ++ lines) (ended (end_line (n + 1))) in
    omega (arith, ap length (text_parts (format_of k) ws n n refl), short_word k, first, last, rules, front, all)
