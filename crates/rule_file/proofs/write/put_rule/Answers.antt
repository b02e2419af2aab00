-- `rule_file::write::put_rule` meets its contract: the numbers of the line are those of the rule, as many as its kind
-- has separators. Assumes nothing.
use Prim.Native.Nat.{ℕ}
use mathlib.Core.Path.{◌≡◌, sym, ap, ◌∙◌}
use mathlib.Core.List.{List}
use lib.ListN.{length, take}
use Rattle.text.specs.Words.{rule_word}
use Rattle.text.specs.Line.{print_line, ended}
use Rattle.text.proofs.Lines.{line_past}
use Rattle.text.proofs.Puts.{put_same}
use Rattle.rule_file.specs.Records.{rule_values, rule_at}
use Rattle.rule_file.proofs.write.put_rule.Goals as goal

-- the line of all numbers of the rule is that of as many as there are separators
line :
    (i : ℕ) (vs ns ms : List ℕ) (rs : List ℕ) (r : List ℕ) → vs ≡ rule_values i r → r ≡ rule_at rs i → ns ≡ ms →
    ended (print_line rule_word ns vs) ≡ ended (print_line rule_word ms (take (length ms) (rule_values i (rule_at rs i))))
line i vs ns ms rs r v e m =
    ap (λ (x : List ℕ). ended (print_line rule_word x vs)) m ∙
    ap (λ (x : List ℕ). ended (print_line rule_word ms x)) (v ∙ ap (rule_values i) e) ∙
    ap ended (sym (line_past rule_word ms _))

pub returns : goal.returns
returns c =
    put_same (line c.args.i _ _ _ c.args.rules.now _ c.values_of-values.ensures c.rule_at.ensures c.marks.ensures)
    c.put_line.ensures
