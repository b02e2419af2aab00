-- `rule_file::piece::put_words` meets its contract: the numbers of the rule's line between two places. The rule's own
-- number stands before them all, so that any serves. Assumes nothing.
use Prim.Native.Nat.{ℕ, ◌<◌}
use native.Mathlib.Omega.{arith}
use mathlib.Core.Path.{◌≡◌, sym, ap, ◌∙◌}
use mathlib.Core.Bool.{Bool, true}
use mathlib.Core.List.{List}
use lib.Dec.{ltb}
use borrow.Author.Tests.{ltb-true}
use Rattle.rules.specs.Words.{rule_count}
use Rattle.text.proofs.Puts.{put_none, put_same}
use Rattle.rule_file.specs.Records.{rule_values, rule_at}
use Rattle.rule_file.specs.Pieces.{piece_of}
use Rattle.rule_file.proofs.Pieces.{places_rise, piece_same, words_there, words_no_rule, words_no_field}
use Rattle.rule_file.proofs.piece.put_words.Goals as goal

-- where the test says so, the rule is there
there : (rs : List ℕ) (r : ℕ) (b : Bool) → b ≡ ltb r (rule_count rs) → b ≡ true → r < rule_count rs
there rs r b e t = ltb-true _ _ (sym e ∙ t)

pub returns-then-not-rule_there : goal.returns-then-not-rule_there
returns-then-not-rule_there c = let told = c.rule_there in
    let none = words_no_rule _ _ _ (sym told.ensures ∙ c.if-not-rule_there.true) in
    put_same (sym none) (put_none _ _ (omega arith))

pub returns-then-f-ge-FIELDS : goal.returns-then-f-ge-FIELDS
returns-then-f-ge-FIELDS c = put_same (sym (words_no_field _ _ _ c.if-f-ge-FIELDS.true)) (put_none _ _ (omega arith))

pub rule_at-requires : goal.rule_at-requires
rule_at-requires c = omega (arith, there _ _ _ c.rule_there.ensures c.if-not-rule_there.false)

pub put_between-requires : goal.put_between-requires
put_between-requires c = let rises = places_rise _ c.if-f-ge-FIELDS.false in
    (rises.rise, rises.inside)

pub returns : goal.returns
unfolding piece_of
returns c = let rs = c.args.rules.now in
    let numbers = c.values_of-values.ensures ∙ ap (rule_values 0) c.rule_at.ensures in
    let words = words_there rs c.args.r c.args.f (there _ _ _ c.rule_there.ensures c.if-not-rule_there.false) c.if-f-ge-FIELDS.false in
    let same = piece_same c.args.f c.if-f-ge-FIELDS.false 0 c.args.r (rule_at rs c.args.r) in
    put_same (ap (piece_of c.args.f) numbers ∙ same ∙ sym words) c.put_between.ensures
