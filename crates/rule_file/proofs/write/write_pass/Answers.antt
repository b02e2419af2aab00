-- `rule_file::write::write_pass` meets its contract: at each turn the lines before it are put. Assumes nothing.
use Prim.Native.Nat.{◌*◌, ◌≤◌}
use native.Mathlib.Omega.{arith}
use mathlib.Core.Path.{sym, ◌∙◌}
use lib.ListN.{length}
use Rattle.text.proofs.Files.{text_none, text_more}
use Rattle.text.proofs.Puts.{put_none, put_then, put_same, put_length}
use Rattle.rules.specs.Words.{rule_words, most_rules}
use Rattle.rules.proofs.Lists.{fine_iff_good}
use Rattle.rule_file.proofs.Writing.{text_parts}
use Rattle.rule_file.proofs.write.write_pass.Goals as goal
use Rattle.rule_file.proofs.write.write_pass.Goals.{At-loop-i}

pub put_first-at-requires : goal.put_first-at-requires
put_first-at-requires c = omega (arith, ((fine_iff_good _ _).0 c.requires).0.few)

pub loop-i-init : goal.loop-i-init
loop-i-init c = put_same (sym (text_none _)) (put_none _ _ (omega arith))

-- the rules are few
few_rules :
    (l : goal.At-loop-i) →
    length l.args.rules.now ≤ most_rules * rule_words
few_rules l =
    ((fine_iff_good _ l.args.rules.now).0 l.requires).0.few

pub put_rule-at-requires : goal.put_rule-at-requires
put_rule-at-requires c = (omega (arith, few_rules (goal.at.put_rule-at-requires c).At-loop-i), omega arith)

pub loop-i-preserved : goal.loop-i-preserved
loop-i-preserved c = let more = put_then (omega arith) c.loop-i.invariant c.put_rule-at.ensures in
    put_same (text_more _ _) more

pub overflow_cast-count : goal.overflow_cast-count
overflow_cast-count c = omega (arith, few_rules (goal.at.overflow_cast-count c).At-loop-i)

pub overflow_add-count : goal.overflow_add-count
overflow_add-count c = omega (arith, few_rules (goal.at.overflow_add-count c).At-loop-i)

pub shape_of-text : goal.shape_of-text
shape_of-text c = put_length c.put_end.ensures ∙ put_length c.loop-i.invariant ∙ put_length c.put_first-at.ensures

pub returns : goal.returns
returns c = let front = put_then (omega arith) c.put_first-at.ensures c.loop-i.invariant in
    put_same (text_parts _ _ _ _ (omega arith)) (put_then (omega arith) front c.put_end.ensures)
